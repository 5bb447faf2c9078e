use Rattle.std.proofs.Common.{◌≡◌, [], refl, subst, ◌∙◌, arith}
use Rattle.std.specs.Io.KnownBytes.{Appends}
use Rattle.cm_store.specs.Writing.{AppendsFront}
use Rattle.run_report.specs.Counting.{no_counts}
use Rattle.run_report.specs.Texts.{summary_lines}
use Rattle.codemod_cmd.specs.Folders.{places}
use Rattle.codemod_cmd.specs.Session.{outside, first_places, Tells, Breaks}
use Rattle.codemod_cmd.proofs.Going.{breaks_none}
use Rattle.codemod_cmd.proofs.Closing.{completed, halted, halted_before}
use Rattle.codemod_cmd.proofs.session.run_job.Goals as goal

pub returns-in_default-clause-halts : goal.returns-in_default-clause-halts
returns-in_default-clause-halts g c =
    let says = g.E.Engine.says c.args.job.now.engine.now in
    let command = c.args.job.now.command.now in
    let w = outside (g.S.Store.contents c.args.store.now) (g.S.Store.fault_count c.args.store.now) (g.O.Sink.taken_bytes c.args.out.now) in
    halted_before says command w w (breaks_none says command (first_places command) w w (record { held = refl; failed = omega arith; taken = refl }))

pub returns-in-Err-clause-halts : goal.returns-in-Err-clause-halts
returns-in-Err-clause-halts g c =
    let says = g.E.Engine.says c.args.job.now.engine.now in
    let command = c.args.job.now.command.now in
    let w = outside (g.S.Store.contents c.args.store.now) (g.S.Store.fault_count c.args.store.now) (g.O.Sink.taken_bytes c.args.out.now) in
    let v = outside (g.S.Store.contents c.walk.new.store) (g.S.Store.fault_count c.walk.new.store) (g.O.Sink.taken_bytes c.walk.new.out) in
    halted_before says command w v (subst (λ l. Breaks says command (places 0 l) w v) (c.deref.ensures.value ∙ c.in-Ok.ensures) c.in-Err.ensures.breaks)

pub returns-in-Ok-say-clause-completes : goal.returns-in-Ok-say-clause-completes
returns-in-Ok-say-clause-completes g c =
    let says = g.E.Engine.says c.args.job.now.engine.now in
    let command = c.args.job.now.command.now in
    let w = outside (g.S.Store.contents c.args.store.now) (g.S.Store.fault_count c.args.store.now) (g.O.Sink.taken_bytes c.args.out.now) in
    let v = outside (g.S.Store.contents c.walk.new.store) (g.S.Store.fault_count c.walk.new.store) (g.O.Sink.taken_bytes c.walk.new.out) in
    let counts = c.walk.new.counts in
    let from = subst (λ n. Tells says command (places 0 c.deref.result.now) [] n counts w v) c.new-counts.ensures c.in-Ok-walk.ensures.tells in
    let told = subst (λ l. Tells says command (places 0 l) [] no_counts counts w v) (c.deref.ensures.value ∙ c.in-Ok.ensures) from in
    let lines : c.deref-2.result.now ≡ summary_lines counts = c.deref-2.ensures.value ∙ c.in-Ok-summary.ensures in
    let mid = v.taken in
    let taken = g.O.Sink.taken_bytes c.say.new.out in
    completed says command w v.held v.failed counts mid taken c.status.result told (subst (Appends mid taken) lines c.in-Ok-say.ensures.all) c.status.ensures

pub returns-clause-halts : goal.returns-clause-halts
returns-clause-halts g c =
    let says = g.E.Engine.says c.args.job.now.engine.now in
    let command = c.args.job.now.command.now in
    let w = outside (g.S.Store.contents c.args.store.now) (g.S.Store.fault_count c.args.store.now) (g.O.Sink.taken_bytes c.args.out.now) in
    let v = outside (g.S.Store.contents c.walk.new.store) (g.S.Store.fault_count c.walk.new.store) (g.O.Sink.taken_bytes c.walk.new.out) in
    let counts = c.walk.new.counts in
    let from = subst (λ n. Tells says command (places 0 c.deref.result.now) [] n counts w v) c.new-counts.ensures c.in-Ok-walk.ensures.tells in
    let told = subst (λ l. Tells says command (places 0 l) [] no_counts counts w v) (c.deref.ensures.value ∙ c.in-Ok.ensures) from in
    let lines : c.deref-2.result.now ≡ summary_lines counts = c.deref-2.ensures.value ∙ c.in-Ok-summary.ensures in
    let mid = v.taken in
    let taken = g.O.Sink.taken_bytes c.say.new.out in
    halted says command w v.held v.failed counts mid taken told (subst (AppendsFront mid taken) lines c.in-Err-say.ensures.front)
