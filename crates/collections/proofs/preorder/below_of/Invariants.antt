use Rattle.std.proofs.Common.{◌≡◌, ◌<◌, ◌++◌, All, filter, length}
use Rattle.collections.specs.Below.{below, is_of, rests}
use Rattle.collections.proofs.preorder.below_of.Given as goal

abbrev pub invariant-loop-pending : goal.invariant-loop-pending
invariant-loop-pending l = record {
  known : All (λ w. w.at < length l.arena.forest.places) l.stack.items;
  within : All (λ p. p < length l.arena.forest.places) l.found.items;
  told : l.found.items ++ filter (is_of l.arena.forest l.of) (rests l.arena.forest l.stack.items) ≡ filter (is_of l.arena.forest l.of) (below (length l.arena.forest.nodes) l.arena.forest l.fn.node);
}

abbrev pub decreases-loop-pending : goal.decreases-loop-pending
decreases-loop-pending l = length (rests l.arena.forest l.stack.items)
