use Rattle.std.proofs.Common.{◌≡◌, ◌<◌, ◌≤◌, length, IfSome}
use Rattle.ast_paths.specs.Paths.{KeepsFilled}
use Rattle.node_builders.proofs.building.fill_list.Given as goal

abbrev pub invariant-loop-at : goal.invariant-loop-at
invariant-loop-at g l = record {
  last : IfSome l.last (λ p. p < length l.arena.forest.places);
  nodes : length l.arena.forest.nodes ≡ length l.initial.arena.forest.nodes;
  places : length l.initial.arena.forest.places ≤ length l.arena.forest.places;
  filled : KeepsFilled l.initial.arena.forest l.arena.forest;
}
