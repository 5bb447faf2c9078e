use Rattle.std.proofs.Common.{◌≡◌, sym}
use Rattle.scope_lookup.specs.Bindings.{add_at}
use Rattle.scope_lookup.proofs.Bound.{known_index, known_name}
use Rattle.scope_lookup.proofs.grouping.note.Goals as goal

pub returns-clause-found : goal.returns-clause-found
returns-clause-found c =
    let n : c.add_place.new.found.items ≡ add_at c.args.found.now.items c.in-Some.index c.args.place = c.in_ok-add_place.ensures in
    known_name (λ key. key.items) c.args.names.now.keys c.args.found.now.items c.add_place.new.found.items c.args.name.now c.args.place c.in-Some.index c.requires
    (sym c.in-Some.ensures.index)
    (known_index (λ key. key.items) c.args.names.now.keys c.args.found.now.items c.in-Some.index c.requires c.in-Some.ensures.within) n
