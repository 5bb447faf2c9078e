use Rattle.std.proofs.Common.{rules, ◌≡◌, Some, None, refl, sym, ap, subst, ◌∙◌}
use Rattle.std.specs.Prelude.{OnErr}
use Rattle.cm_store.specs.Writing.{AppendsFront}
use Rattle.command_words.specs.declared.invocation.Request.TheVariants.{Run, Sample}
use Rattle.codemod_cmd.specs.Session.{outside, asked, Stops}
use Rattle.codemod_cmd.proofs.Fronts.{on_err}
use Rattle.codemod_cmd.proofs.Endings.{usage_stops, sample_stops}
use Rattle.codemod_cmd.proofs.running.run_words.Goals as goal

pub returns-in_err-say-clause-stops : goal.returns-in_err-say-clause-stops
returns-in_err-say-clause-stops g c =
    let words = c.args.words.now in
    let w = outside (g.S.Store.contents c.args.store.now) (g.S.Store.fault_count c.args.store.now) (g.O.Sink.taken_bytes c.args.out.now) in
    let v = outside (g.S.Store.contents c.args.store.now) (g.S.Store.fault_count c.args.store.now) (g.O.Sink.taken_bytes c.say.new.out) in
    let none : asked words ≡ None = search rules in
    let front = subst (AppendsFront w.taken v.taken) c.usage.ensures c.in_err-say.ensures.front in
    on_err (Stops (asked words) w v) c.from_residual-in_err-say.result (usage_stops (asked words) w v none refl front)

pub returns-in_err-say-in-Sample-clause-stops : goal.returns-in_err-say-in-Sample-clause-stops
returns-in_err-say-in-Sample-clause-stops g c =
    let words = c.args.words.now in
    let w = outside (g.S.Store.contents c.args.store.now) (g.S.Store.fault_count c.args.store.now) (g.O.Sink.taken_bytes c.args.out.now) in
    let v = outside (g.S.Store.contents c.args.store.now) (g.S.Store.fault_count c.args.store.now) (g.O.Sink.taken_bytes c.say-in-Sample.new.out) in
    let lines = c.in_ok-lines-in-Sample.lines.items in
    let asks : asked words ≡ Some (Sample c.in-Sample.count) = sym c.in_ok-request.ensures.value ∙ c.in-Some.is ∙ ap Some c.in-Sample.is in
    let front : AppendsFront w.taken v.taken lines = subst (AppendsFront w.taken v.taken) c.deref.ensures.value c.in_err-say-in-Sample.ensures.front in
    on_err (Stops (asked words) w v) c.from_residual-in_err-say-in-Sample.result (sample_stops (asked words) w v c.in-Sample.count lines asks refl c.in_ok-lines-in-Sample.ensures front)

pub returns-in-Run-clause-stops : goal.returns-in-Run-clause-stops
returns-in-Run-clause-stops g c =
    let words = c.args.words.now in
    let w = outside (g.S.Store.contents c.args.store.now) (g.S.Store.fault_count c.args.store.now) (g.O.Sink.taken_bytes c.args.out.now) in
    let v = outside (g.S.Store.contents c.run_command.new.store) (g.S.Store.fault_count c.run_command.new.store) (g.O.Sink.taken_bytes c.run_command.new.out) in
    let asks : asked words ≡ Some (Run c.in-Run.command) = sym c.in_ok-request.ensures.value ∙ c.in-Some.is ∙ ap Some c.in-Run.is in
    subst (λ r. OnErr c.run_command.result (Stops r w v)) (sym asks) c.run_command.ensures.stops
