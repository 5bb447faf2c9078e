use Rattle.std.proofs.Common.{◌≡◌}
use Rattle.node_builders.proofs.building.set_scalars.Given as goal

abbrev pub invariant-loop-turn : goal.invariant-loop-turn
invariant-loop-turn l = l.arena.forest ≡ l.initial.arena.forest
