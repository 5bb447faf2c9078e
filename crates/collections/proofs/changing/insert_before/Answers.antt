use Rattle.std.proofs.Common.{ap, Err}
use Rattle.collections.specs.Changes.{Inserted, IsUnlisted}
use Rattle.collections.proofs.Kept.{keeps_more, keeps_same, filled_more}
use Rattle.collections.proofs.Making.{made_next, made_none, stopped_at, inserted}
use Rattle.collections.proofs.changing.insert_before.Goals as goal

pub loop-at-init : goal.loop-at-init
loop-at-init c = record {
  ids = keeps_same c.args.arena.now.forest;
  filled = λ x h. h;
  made = made_none Inserted c.args.arena.now c.as_slice-list.result.now;
}

pub returns-in-Err-clause-stopped : goal.returns-in-Err-clause-stopped
returns-in-Err-clause-stopped c =
    stopped_at Inserted IsUnlisted c.args.arena.now c.loop-at.arena c.insert_before.new.arena c.as_slice-list.result.now c.args.paths.now c.loop-at.at c.index-list-at.result c.in-Err.fault c.as_slice-list.ensures c.loop-at-test.true c.index-list-at.is c.loop-at.invariant.made
    c.in-Err.ensures.err (λ e. c.in-Err.ensures.listed.0 (ap Err e)) (λ r. let h = c.in-Err.ensures.listed.1 r in cc) (λ e. c.in-Err.ensures.field (ap Err e))

pub loop-at-preserved : goal.loop-at-preserved
loop-at-preserved c = record {
  ids = keeps_more c.args.arena.now.forest c.loop-at.arena.forest c.insert_before.new.arena.forest c.loop-at.invariant.ids c.in-Ok.ensures.ids;
  filled = filled_more c.args.arena.now.forest c.loop-at.arena.forest c.insert_before.new.arena.forest c.loop-at.invariant.filled c.in-Ok.ensures.filled;
  made = made_next Inserted c.args.arena.now c.loop-at.arena c.insert_before.new.arena c.as_slice-list.result.now c.loop-at.at c.index-list-at.result c.loop-at-test.true c.index-list-at.is c.loop-at.invariant.made (inserted c.loop-at.arena c.insert_before.new.arena c.index-list-at.result (λ e. let h = c.in-Ok.ensures.listed.1 e in cc) c.in-Ok.ensures.ids c.in-Ok.ensures.filled);
}
