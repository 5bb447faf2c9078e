use Rattle.std.proofs.Common.{◌≡◌, ◌++◌, ◌∷◌, [], rules, arith}
use Rattle.std.proofs.lemmas.Grind.{common_steps}
use Rattle.scope_lookup.proofs.Bound.{key_added, new_names}
use Rattle.scope_lookup.proofs.grouping.add_name.Goals as goal

pub returns-clause-names : goal.returns-clause-names
returns-clause-names c =
    let e : c.in_ok-from_slice.field-0.items ≡ c.args.name.now = c.in_ok-from_slice.ensures.items in
    let k : c.insert.new.self.keys ≡ c.args.names.now.keys ++ c.in_ok-from_slice.field-0 ∷ [] =
    key_added (λ key. key.items) c.args.names.now.keys c.insert.new.self.keys c.in_ok-from_slice.field-0 c.args.name.now e c.requires.absent c.in_ok-insert.ensures.keys in
    let n : c.push.new.self.items ≡ c.args.found.now.items ++ record { name = c.args.name.now; places = c.args.place ∷ [] } ∷ [] = first_of (search rules, grind (arith, common_steps)) in
    new_names (λ key. key.items) c.args.names.now.keys c.insert.new.self.keys c.args.found.now.items c.push.new.self.items c.in_ok-from_slice.field-0 c.args.name.now c.args.place
    c.requires.known e k n
