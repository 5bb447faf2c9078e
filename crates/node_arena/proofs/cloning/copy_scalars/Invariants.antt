use Rattle.std.proofs.Common.{◌≡◌, take}
use Rattle.node_arena.proofs.cloning.copy_scalars.Given as goal

abbrev pub invariant-loop-scalar : goal.invariant-loop-scalar
invariant-loop-scalar l = l.copied.items ≡ take l.scalar-index l.scalars
