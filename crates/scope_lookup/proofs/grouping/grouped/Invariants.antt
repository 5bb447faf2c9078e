use Rattle.std.proofs.Common.{◌≡◌, [], map}
use Rattle.scope_lookup.specs.Bindings.{bind_all}
use Rattle.scope_lookup.proofs.grouping.grouped.Given as goal

abbrev pub invariant-loop-place : goal.invariant-loop-place
invariant-loop-place l = record {
  names : map (λ key. key.items) l.names.keys ≡ map (λ b. b.name) l.found.items;
  found : l.found.items ≡ bind_all l.arena [] l.yielded;
}
