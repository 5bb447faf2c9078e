use Rattle.std.proofs.Common.{◌≤◌}
use Rattle.script_eval.proofs.literals.set_leaves.Given as goal

-- fuel never rises
abbrev pub invariant-loop-i : goal.invariant-loop-i
invariant-loop-i l = l.fuel ≤ l.fn.fuel
