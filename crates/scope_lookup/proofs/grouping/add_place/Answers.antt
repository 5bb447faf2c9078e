use Rattle.scope_lookup.proofs.Bound.{set_told}
use Rattle.scope_lookup.proofs.grouping.add_place.Goals as goal

pub returns : goal.returns
returns c = set_told c.args.found.now.items c.args.index c.args.place c.index_mut.result.now c.push.new.self c.requires c.index_mut.ensures.value c.in_ok-push.ensures.ok
