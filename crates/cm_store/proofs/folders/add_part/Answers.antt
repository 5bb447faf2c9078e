use Rattle.std.proofs.Common.{rules, ◌≡◌, ◌≢◌, ◌∙◌, [], Some, None, drop, length, string_bytes, true, if◌then◌else◌}
use Rattle.std.proofs.lemmas.Map.Text.{btree_set_updates_text}
use Rattle.std.specs.BTreeSet.{contains_text}
use Rattle.cm_store.specs.Below.{is_below}
use Rattle.cm_store.specs.Listing.{part_of}
use Rattle.cm_store.proofs.Fronts.{part_added}
use Rattle.cm_store.proofs.folders.add_part.Goals as goal

pub returns : goal.returns
returns c = λ q.
    let part = string_bytes c.in_ok-part.part in
    let rest = c.in-Some.rest.now in
    let behind : Some rest ≡ (if is_below c.args.front.now c.args.name.now then Some (drop (length c.args.front.now) c.args.name.now) else None) = search rules in
    let cut : part ≡ part_of rest = search rules in
    let some : part ≢ [] = search rules in
    btree_set_updates_text part c.args.parts.now c.insert.new.self true c.in-Ok.ensures.updates q
    ∙ part_added c.args.front.now c.args.name.now rest part q (contains_text c.args.parts.now q) behind cut some
