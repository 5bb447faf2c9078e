use Rattle.std.proofs.Common.{◌≡◌, ◌≤◌, length}
use Rattle.node_arena.specs.Fronts.{front}
use Rattle.node_arena.proofs.arena.Arena.copy_places.Given as goal

abbrev pub invariant-loop-slot : goal.invariant-loop-slot
invariant-loop-slot g l = record {
  front : front l.mark l.self ≡ front l.mark l.initial.self;
  nodes : l.self.forest.nodes ≡ l.initial.self.forest.nodes;
  places : length l.initial.self.forest.places ≤ length l.self.forest.places;
  spare : l.mark.spare ≤ l.self.spare;
}
