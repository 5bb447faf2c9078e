use Rattle.std.proofs.Common.{◌<◌, ◌≤◌, length, IfSome}
use Rattle.arena_trees.proofs.loading.+load.Given as goal

abbrev pub invariant-load_slots-loop-index : goal.invariant-load_slots-loop-index
invariant-load_slots-loop-index l = record {
  nodes : length l.initial.arena.forest.nodes ≤ length l.arena.forest.nodes;
  places : length l.initial.arena.forest.places ≤ length l.arena.forest.places;
}

abbrev pub invariant-load_slot-loop-place : goal.invariant-load_slot-loop-place
invariant-load_slot-loop-place l = record {
  at : IfSome l.at (λ p. p < length l.arena.forest.places);
  nodes : length l.initial.arena.forest.nodes ≤ length l.arena.forest.nodes;
  places : length l.initial.arena.forest.places ≤ length l.arena.forest.places;
}
