use Rattle.std.proofs.Common.{◌<◌, length, IfSome}
use Rattle.arena_trees.proofs.unloading.list_length.Given as goal

abbrev pub invariant-loop-turn : goal.invariant-loop-turn
invariant-loop-turn l = IfSome l.at (λ p. p < length l.arena.forest.places)
