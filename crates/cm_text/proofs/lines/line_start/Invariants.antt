use Rattle.std.proofs.Common.{◌≡◌}
use Rattle.cm_text.specs.Lines.{line_start}
use Rattle.cm_text.proofs.lines.line_start.Given as goal

abbrev pub invariant-loop-behind : goal.invariant-loop-behind
invariant-loop-behind l = line_start l.bytes l.behind ≡ line_start l.bytes l.at
