use Rattle.std.proofs.Common.{◌≡◌, ◌<◌, ◌≤◌, length, IfSome}
use Rattle.node_arena.specs.Forest.{IsRoot}
use Rattle.node_arena.specs.Fronts.{IsCopied, front}
use Rattle.node_arena.proofs.arena.Arena.copy_below.Given as goal

abbrev pub invariant-loop-turn : goal.invariant-loop-turn
invariant-loop-turn g l = record {
  from : IfSome l.from (λ p. p < length l.self.forest.places);
  to : IfSome l.to (λ p. p < length l.self.forest.places);
  copied : IsCopied l.fn.self l.self l.copy;
  root : IsRoot l.self.forest l.copy;
  front : front l.mark l.self ≡ front l.mark l.initial.self;
  spare : l.mark.spare ≤ l.self.spare;
}
