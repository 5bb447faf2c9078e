use Rattle.std.proofs.Common.{◌≡◌, ◌<◌, ◌++◌, All, length}
use Rattle.scope_lookup.specs.Walk.{binding_places, declaring, rests}
use Rattle.scope_lookup.proofs.walk.declared.Given as goal

abbrev pub invariant-loop-pending : goal.invariant-loop-pending
invariant-loop-pending l = record {
  known : All (λ w. w.at < length l.arena.forest.places) l.stack.items;
  within : All (λ p. p < length l.arena.forest.places) l.found.items;
  told : l.found.items ++ binding_places (rests l.arena l.stack.items) ≡ declaring l.arena l.fn.scope;
}

abbrev pub decreases-loop-pending : goal.decreases-loop-pending
decreases-loop-pending l = length (rests l.arena l.stack.items)
