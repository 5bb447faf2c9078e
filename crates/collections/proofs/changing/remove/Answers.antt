use Rattle.std.proofs.Common.{ap, Err}
use Rattle.collections.specs.Changes.{Removed, IsOut}
use Rattle.collections.proofs.Kept.{keeps_more, keeps_same, keeps_pruned}
use Rattle.collections.proofs.Making.{made_next, made_none, stopped_at, not_field, removed, spare_kept}
use Rattle.collections.proofs.changing.remove.Goals as goal

pub loop-at-init : goal.loop-at-init
loop-at-init c = record {
  ids = keeps_same c.args.arena.now.forest;
  made = made_none Removed c.args.arena.now c.as_slice-list.result.now;
}

pub returns-in-Err-clause-stopped : goal.returns-in-Err-clause-stopped
returns-in-Err-clause-stopped c =
    stopped_at Removed IsOut c.args.arena.now c.loop-at.arena c.prune.new.arena c.as_slice-list.result.now c.args.paths.now c.loop-at.at c.index-list-at.result c.in-Err.fault c.as_slice-list.ensures c.loop-at-test.true c.index-list-at.is c.loop-at.invariant.made
    (spare_kept c.loop-at.arena c.prune.new.arena c.in-Err.ensures.err) (λ e. c.in-Err.ensures.listed.0 (ap Err e)) (λ r. let h = c.in-Err.ensures.listed.1 r in cc) (not_field c.in-Err.fault (let h = c.in-Err.ensures.refused in cc))

pub loop-at-preserved : goal.loop-at-preserved
loop-at-preserved c = record {
  ids = keeps_more c.args.arena.now.forest c.loop-at.arena.forest c.prune.new.arena.forest c.loop-at.invariant.ids (keeps_pruned c.loop-at.arena c.prune.new.arena c.index-list-at.result c.in-Ok.ensures.ok);
  made = made_next Removed c.args.arena.now c.loop-at.arena c.prune.new.arena c.as_slice-list.result.now c.loop-at.at c.index-list-at.result c.loop-at-test.true c.index-list-at.is c.loop-at.invariant.made (removed c.loop-at.arena c.prune.new.arena c.index-list-at.result (λ e. let h = c.in-Ok.ensures.listed.1 e in cc) c.in-Ok.ensures.ok);
}
