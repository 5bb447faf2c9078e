use Rattle.std.proofs.Common.{◌+◌, ◌<◌, ◌≤◌, length, IfSome}
use Rattle.node_arena.proofs.arena.Arena.size.Given as goal

abbrev pub invariant-loop-turn : goal.invariant-loop-turn
invariant-loop-turn l = record {
  at : IfSome l.at (λ p. p < length l.self.forest.places);
  nodes : l.size.nodes ≤ 1 + l._turn;
  places : l.size.places ≤ l._turn;
  listed : l.size.listed ≤ l.size.places;
}
