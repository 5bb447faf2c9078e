use Rattle.std.proofs.Common.{◌+◌, [], subst, arith}
use Rattle.codemod_cmd.specs.Folders.{places}
use Rattle.codemod_cmd.specs.Session.{outside, Tells, Breaks}
use Rattle.codemod_cmd.proofs.Going.{tells_none, gone_on, broken, broken_inside}
use Rattle.codemod_cmd.proofs.walking.+walk.Goals as goal

pub loop-pending-init : goal.loop-pending-init
loop-pending-init g t c =
    let w = outside (g.S.Store.contents c.args.store.now) (g.S.Store.fault_count c.args.store.now) (g.O.Sink.taken_bytes c.args.out.now) in
    (tells_none (g.E.Engine.says c.args.job.now.engine.now) c.args.job.now.command.now (places c.args.level c.args.names.now) c.args.counts.now w, omega arith)

pub loop-pending-preserved : goal.loop-pending-preserved
loop-pending-preserved g t c =
    let says = g.E.Engine.says c.args.job.now.engine.now in
    let command = c.args.job.now.command.now in
    let level = c.args.level in
    let names = c.args.names.now in
    let start = c.args.counts.now in
    let w = outside (g.S.Store.contents c.args.store.now) (g.S.Store.fault_count c.args.store.now) (g.O.Sink.taken_bytes c.args.out.now) in
    let u = outside (g.S.Store.contents c.loop-pending.store) (g.S.Store.fault_count c.loop-pending.store) (g.O.Sink.taken_bytes c.loop-pending.out) in
    let x = outside (g.S.Store.contents c.visit.new.store) (g.S.Store.fault_count c.visit.new.store) (g.O.Sink.taken_bytes c.visit.new.out) in
    let y = outside (g.S.Store.contents c.walk.new.store) (g.S.Store.fault_count c.walk.new.store) (g.O.Sink.taken_bytes c.walk.new.out) in
    let i = c.loop-pending.invariant in
    let inner = subst (λ l. Tells says command (places (level + 1) l) [] c.visit.new.counts c.walk.new.counts x y) c.deref.ensures.value c.in-Ok-walk.ensures.tells in (
      gone_on says command level names start w c.loop-pending.pending-index c.pending-item.result (places (level + 1) c.in-Ok.inner.items) c.loop-pending.counts c.visit.new.counts c.walk.new.counts u x y c.loop-pending-test.true c.pending-item.is i.0 c.in-Ok.ensures.tells inner,
      omega (arith, i.1, c.visit.ensures.later, c.walk.ensures.later),
    )

pub returns-in-Err-clause-breaks : goal.returns-in-Err-clause-breaks
returns-in-Err-clause-breaks g t c =
    let says = g.E.Engine.says c.args.job.now.engine.now in
    let command = c.args.job.now.command.now in
    let level = c.args.level in
    let names = c.args.names.now in
    let start = c.args.counts.now in
    let w = outside (g.S.Store.contents c.args.store.now) (g.S.Store.fault_count c.args.store.now) (g.O.Sink.taken_bytes c.args.out.now) in
    let u = outside (g.S.Store.contents c.loop-pending.store) (g.S.Store.fault_count c.loop-pending.store) (g.O.Sink.taken_bytes c.loop-pending.out) in
    let x = outside (g.S.Store.contents c.visit.new.store) (g.S.Store.fault_count c.visit.new.store) (g.O.Sink.taken_bytes c.visit.new.out) in
    broken says command level names start w c.loop-pending.pending-index c.pending-item.result c.loop-pending.counts u x c.loop-pending-test.true c.pending-item.is c.loop-pending.invariant.0 c.in-Err.ensures.breaks

pub returns-in-Err-walk-clause-breaks : goal.returns-in-Err-walk-clause-breaks
returns-in-Err-walk-clause-breaks g t c =
    let says = g.E.Engine.says c.args.job.now.engine.now in
    let command = c.args.job.now.command.now in
    let level = c.args.level in
    let names = c.args.names.now in
    let start = c.args.counts.now in
    let w = outside (g.S.Store.contents c.args.store.now) (g.S.Store.fault_count c.args.store.now) (g.O.Sink.taken_bytes c.args.out.now) in
    let u = outside (g.S.Store.contents c.loop-pending.store) (g.S.Store.fault_count c.loop-pending.store) (g.O.Sink.taken_bytes c.loop-pending.out) in
    let x = outside (g.S.Store.contents c.visit.new.store) (g.S.Store.fault_count c.visit.new.store) (g.O.Sink.taken_bytes c.visit.new.out) in
    let y = outside (g.S.Store.contents c.walk.new.store) (g.S.Store.fault_count c.walk.new.store) (g.O.Sink.taken_bytes c.walk.new.out) in
    let inner = subst (λ l. Breaks says command (places (level + 1) l) x y) c.deref.ensures.value c.in-Err-walk.ensures.breaks in
    broken_inside says command level names start w c.loop-pending.pending-index c.pending-item.result (places (level + 1) c.in-Ok.inner.items) c.loop-pending.counts c.visit.new.counts u x y c.loop-pending-test.true c.pending-item.is c.loop-pending.invariant.0 c.in-Ok.ensures.tells inner
