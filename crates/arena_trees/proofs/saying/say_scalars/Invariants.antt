use Rattle.std.proofs.Common.{◌≡◌}
use Rattle.arena_trees.proofs.saying.say_scalars.Given as goal

abbrev pub invariant-loop-index : goal.invariant-loop-index
invariant-loop-index l = l.arena.forest ≡ l.initial.arena.forest
