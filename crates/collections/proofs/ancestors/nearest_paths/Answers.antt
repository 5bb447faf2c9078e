use Rattle.std.proofs.Common.{◌∙◌, ap, length}
use Rattle.std.specs.Prelude.{nat_eq}
use Rattle.indexmap.specs.IndexSet.{insert_all}
use Rattle.collections.specs.Matches.{fits_type}
use Rattle.collections.proofs.Climbs.{nearest_one}
use Rattle.collections.proofs.Inserted.{all_added}
use Rattle.collections.proofs.ancestors.nearest_paths.Goals as goal

pub loop-path-preserved : goal.loop-path-preserved
loop-path-preserved c =
    let F = c.args.arena.now.forest in
    let e = c.in_ok-add_all.ensures.added ∙ ap (insert_all nat_eq c.loop-path.kept.items) c.deref.ensures.value in
    record {
      same = c.in_ok-add_all.ensures.same;
      found = nearest_one F (fits_type c.args.arena.now c.args.pattern.now c.args.of) c.loop-path.kept.items c.add_all.new.kept.items c.loop-path.yielded c.in_ok-above.above.items c.in-Some.path c.loop-path.invariant.found c.in_ok-above.ensures.found e;
      within = all_added (length F.places) c.loop-path.kept.items c.add_all.new.kept.items c.in_ok-above.above.items c.loop-path.invariant.within c.in_ok-above.ensures.within e;
    }
