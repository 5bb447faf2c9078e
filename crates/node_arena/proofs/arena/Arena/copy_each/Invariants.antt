use Rattle.std.proofs.Common.{◌≡◌, ◌≤◌, length, All}
use Rattle.node_arena.specs.Fronts.{IsRootBehind, front}
use Rattle.node_arena.proofs.arena.Arena.copy_each.Given as goal

abbrev pub invariant-loop-at : goal.invariant-loop-at
invariant-loop-at g l = record {
  grown : length l.initial.self.forest.nodes ≤ length l.self.forest.nodes;
  front : front l.mark l.self ≡ front l.mark l.initial.self;
  roots : All (λ j. IsRootBehind l.mark l.self.forest j) l.copies;
  count : length l.copies ≡ l.at;
  spare : l.mark.spare ≤ l.self.spare;
}
