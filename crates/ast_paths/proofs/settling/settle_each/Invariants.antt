use Rattle.std.proofs.Common.{◌≡◌, length}
use Rattle.ast_paths.specs.Paths.{KeepsFilled}
use Rattle.ast_paths.proofs.settling.settle_each.Given as goal

abbrev pub invariant-loop-at : goal.invariant-loop-at
invariant-loop-at g l = record {
  count : length l.items.items ≡ length l.initial.items.items;
  nodes : length l.arena.forest.nodes ≡ length l.initial.arena.forest.nodes;
  places : length l.arena.forest.places ≡ length l.initial.arena.forest.places;
  filled : KeepsFilled l.initial.arena.forest l.arena.forest;
}
