use Rattle.std.proofs.Common.{◌≡◌, ◌<◌, ◌≤◌, length, IfSome}
use Rattle.arena_trees.proofs.places.make_list.Given as goal

abbrev pub invariant-loop-place : goal.invariant-loop-place
invariant-loop-place g l = record {
  last : IfSome l.last (λ p. p < length l.arena.forest.places);
  nodes : l.arena.forest.nodes ≡ l.initial.arena.forest.nodes;
  places : length l.initial.arena.forest.places ≤ length l.arena.forest.places;
}
