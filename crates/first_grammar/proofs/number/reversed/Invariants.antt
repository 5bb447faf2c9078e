use Rattle.std.proofs.Common.{◌≡◌, ◌++◌, length, reverse}
use Rattle.first_grammar.proofs.number.reversed.Given as goal

abbrev pub invariant-loop-item : goal.invariant-loop-item
invariant-loop-item g l = l.fn.items ≡ l.items ++ reverse l.all

abbrev pub decreases-loop-item : goal.decreases-loop-item
decreases-loop-item g l = length l.items
