use Rattle.std.proofs.Common.{◌≡◌, ◌+◌, ◌<◌, ◌≤◌, length, IfSome}
use Rattle.node_arena.specs.Fronts.{IsLastIn, front}
use Rattle.node_arena.specs.Reads.{base_at}
use Rattle.node_arena.proofs.arena.Arena.copy_list.Given as goal

abbrev pub invariant-loop-turn : goal.invariant-loop-turn
invariant-loop-turn g l = record {
  from : IfSome l.from (λ p. p < length l.self.forest.places);
  last : IsLastIn l.self.forest (base_at l.self.forest l.copy + l.slot) l.last;
  nodes : l.self.forest.nodes ≡ l.initial.self.forest.nodes;
  places : length l.initial.self.forest.places ≤ length l.self.forest.places;
  front : front l.mark l.self ≡ front l.mark l.initial.self;
  spare : l.mark.spare ≤ l.self.spare;
}
