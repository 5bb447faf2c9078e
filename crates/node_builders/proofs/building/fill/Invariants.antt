use Rattle.std.proofs.Common.{◌≡◌, ◌≤◌, length}
use Rattle.ast_paths.specs.Paths.{KeepsFilled}
use Rattle.node_builders.proofs.building.fill.Given as goal

abbrev pub invariant-loop-at : goal.invariant-loop-at
invariant-loop-at g l = record {
  nodes : length l.arena.forest.nodes ≡ length l.initial.arena.forest.nodes;
  places : length l.initial.arena.forest.places ≤ length l.arena.forest.places;
  filled : KeepsFilled l.initial.arena.forest l.arena.forest;
}
