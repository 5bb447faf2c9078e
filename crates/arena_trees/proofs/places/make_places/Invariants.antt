use Rattle.std.proofs.Common.{◌≤◌, length}
use Rattle.arena_trees.proofs.places.make_places.Given as goal

abbrev pub invariant-loop-index : goal.invariant-loop-index
invariant-loop-index l = record {
  nodes : length l.initial.arena.forest.nodes ≤ length l.arena.forest.nodes;
  places : length l.initial.arena.forest.places ≤ length l.arena.forest.places;
}
