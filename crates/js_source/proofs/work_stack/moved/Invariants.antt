use Rattle.std.proofs.Common.{length}
use Rattle.js_source.proofs.work_stack.moved.Given as goal

abbrev pub decreases-loop-item : goal.decreases-loop-item
decreases-loop-item g l = length l.from
