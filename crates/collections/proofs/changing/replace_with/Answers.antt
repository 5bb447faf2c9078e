use Rattle.std.proofs.Common.{ap, length, Err}
use Rattle.collections.specs.Changes.{Replaced, TakesNone}
use Rattle.collections.proofs.Kept.{keeps_more, keeps_same, filled_more}
use Rattle.collections.proofs.Making.{made_next, made_none, stopped_at, replaced}
use Rattle.collections.proofs.changing.replace_with.Goals as goal

pub loop-at-init : goal.loop-at-init
loop-at-init c = record {
  ids = keeps_same c.args.arena.now.forest;
  filled = λ n x h. h;
  made = made_none (Replaced (length c.args.nodes.now)) c.args.arena.now c.as_slice-list.result.now;
}

pub returns-in-Err-clause-stopped : goal.returns-in-Err-clause-stopped
returns-in-Err-clause-stopped c =
    stopped_at (Replaced (length c.args.nodes.now)) (TakesNone (length c.args.nodes.now)) c.args.arena.now c.loop-at.arena c.replace.new.arena c.as_slice-list.result.now c.args.paths.now c.loop-at.at c.index-list-at.result c.in-Err.fault c.as_slice-list.ensures c.loop-at-test.true c.index-list-at.is c.loop-at.invariant.made
    c.in-Err.ensures.err (λ e. c.in-Err.ensures.listed.0 (ap Err e)) (λ r. let h = c.in-Err.ensures.listed.1 r in cc) (λ e. c.in-Err.ensures.field (ap Err e))

pub loop-at-preserved : goal.loop-at-preserved
loop-at-preserved c = record {
  ids = keeps_more c.args.arena.now.forest c.loop-at.arena.forest c.replace.new.arena.forest c.loop-at.invariant.ids c.in-Ok.ensures.ids;
  filled = λ n. filled_more c.args.arena.now.forest c.loop-at.arena.forest c.replace.new.arena.forest (c.loop-at.invariant.filled n) (c.in-Ok.ensures.filled n);
  made = made_next (Replaced (length c.args.nodes.now)) c.args.arena.now c.loop-at.arena c.replace.new.arena c.as_slice-list.result.now c.loop-at.at c.index-list-at.result c.loop-at-test.true c.index-list-at.is c.loop-at.invariant.made (replaced c.loop-at.arena c.replace.new.arena c.index-list-at.result (length c.args.nodes.now) (λ e. let h = c.in-Ok.ensures.listed.1 e in cc) c.in-Ok.ensures.ids c.in-Ok.ensures.filled);
}
