use Rattle.std.proofs.Common.{◌++◌, ◌∷◌, [], ◌∙◌, refl, ap, length}
use Rattle.std.specs.Prelude.{nat_eq}
use Rattle.indexmap.specs.IndexSet.{insert_all}
use Rattle.collections.proofs.Inserted.{found_one, all_added}
use Rattle.collections.proofs.finding.below_paths.Goals as goal

pub loop-path-preserved : goal.loop-path-preserved
loop-path-preserved c =
    let F = c.args.arena.now.forest in
    let e = c.in_ok-add_all.ensures.added ∙ ap (insert_all nat_eq c.loop-path.kept.items) c.deref.ensures.value in
    record {
      same = c.in_ok-add_all.ensures.same;
      found = found_one F c.args.of c.loop-path.kept.items c.add_all.new.kept.items c.loop-path.yielded (c.loop-path.yielded ++ c.in-Some.path ∷ []) c.in_ok-below.below.items c.in-Some.path
          c.loop-path.invariant.found e c.in_ok-below.ensures.found refl;
      within = all_added (length F.places) c.loop-path.kept.items c.add_all.new.kept.items c.in_ok-below.below.items c.loop-path.invariant.within c.in_ok-below.ensures.within e;
    }
