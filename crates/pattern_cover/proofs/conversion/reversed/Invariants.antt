use Rattle.std.proofs.Common.{◌≡◌, ◌++◌, length, reverse}
use Rattle.pattern_cover.proofs.conversion.reversed.Given as goal

abbrev pub invariant-loop-place : goal.invariant-loop-place
invariant-loop-place l = l.fn.places ≡ l.places ++ reverse l.all

abbrev pub decreases-loop-place : goal.decreases-loop-place
decreases-loop-place l = length l.places
