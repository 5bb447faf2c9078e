use Rattle.std.proofs.Common.{◌≡◌, take}
use Rattle.tree_core.proofs.copying.copy_scalars.Given as goal

abbrev pub invariant-loop-at : goal.invariant-loop-at
invariant-loop-at l = l.copied ≡ take l.at l.scalars
