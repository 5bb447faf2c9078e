use Rattle.std.proofs.Common.{◌≡◌, Some, refl, inl, inr, subst}
use Rattle.std.specs.Prelude.{IfOk, OnErr}
use Rattle.std.specs.Io.KnownBytes.{Appends}
use Rattle.cm_store.specs.Writing.{AppendsFront}
use Rattle.command_words.specs.declared.invocation.Request.TheVariants.{Run}
use Rattle.run_report.specs.Texts.{script_line}
use Rattle.codemod_cmd.specs.Rows.{HasBytes}
use Rattle.codemod_cmd.specs.Changes.{change_of}
use Rattle.codemod_cmd.specs.Script.{special, general, IsScript, IsNoScript}
use Rattle.codemod_cmd.specs.RunAnswer.{RunAnswer}
use Rattle.codemod_cmd.specs.Session.{outside, Stays, Completes, Halts, IsUnread, IsRefused, IsNotRun}
use Rattle.codemod_cmd.specs.declared.status.Status.TheVariants.{NoScript}
use Rattle.codemod_cmd.proofs.Endings.{refused_finishes, refused_stops, job_finishes, job_stops}
use Rattle.codemod_cmd.proofs.running.run_command.Goals as goal

pub returns-in-Err-Refused-clause-stops : goal.returns-in-Err-Refused-clause-stops
returns-in-Err-Refused-clause-stops g c =
    let command = c.args.command.now in
    let request = Some (Run command) in
    let w = outside (g.S.Store.contents c.args.store.now) (g.S.Store.fault_count c.args.store.now) (g.O.Sink.taken_bytes c.args.out.now) in
    let v = outside (g.S.Store.contents c.read_script.new.store) (g.S.Store.fault_count c.read_script.new.store) (g.O.Sink.taken_bytes c.refuse_script.new.out) in
    let error = c.in-Err-Refused.error in
    let sourced = rw c.in-Err-Refused.field-0-is at c.in-Err-Refused.ensures.sourced in
    let unread = subst (λ n. IsUnread w.held w.failed v.failed n error) c.get-name.ensures sourced in
    let r = c.refuse_script.result in
    let front = subst (λ n. OnErr r (AppendsFront w.taken v.taken (script_line n error))) c.get-name.ensures c.refuse_script.ensures.front in
    refused_stops request w v command error refl (inl unread) c.read_script.ensures.kept r front

pub returns-in-Some-clause-finishes : goal.returns-in-Some-clause-finishes
returns-in-Some-clause-finishes g c =
    let command = c.args.command.now in
    let request = Some (Run command) in
    let w = outside (g.S.Store.contents c.args.store.now) (g.S.Store.fault_count c.args.store.now) (g.O.Sink.taken_bytes c.args.out.now) in
    let x = outside (g.S.Store.contents c.read_script.new.store) (g.S.Store.fault_count c.read_script.new.store) (g.O.Sink.taken_bytes c.args.out.now) in
    let v = outside (g.S.Store.contents c.run_job.new.store) (g.S.Store.fault_count c.run_job.new.store) (g.O.Sink.taken_bytes c.run_job.new.out) in
    let change = change_of c.in-Some.engine in
    let bytes = c.in-Ok.source in
    let has : HasBytes w.held command.script bytes = subst (λ n. HasBytes w.held n bytes) c.get-name.ensures c.in-Ok.ensures.sourced.0 in
    let is : IsScript change bytes = subst (IsScript change) c.bytes.ensures.value c.in-Some.ensures in
    let stays : Stays w x = record { held = c.read_script.ensures.kept; failed = c.read_script.ensures.later; taken = refl } in
    job_finishes request w x v command (special change) (refl, (bytes, has, c.in-Ok.ensures.sourced.1, is)) stays c.run_job.result c.run_job.ensures.completes

pub returns-in-Some-clause-stops : goal.returns-in-Some-clause-stops
returns-in-Some-clause-stops g c =
    let command = c.args.command.now in
    let request = Some (Run command) in
    let w = outside (g.S.Store.contents c.args.store.now) (g.S.Store.fault_count c.args.store.now) (g.O.Sink.taken_bytes c.args.out.now) in
    let x = outside (g.S.Store.contents c.read_script.new.store) (g.S.Store.fault_count c.read_script.new.store) (g.O.Sink.taken_bytes c.args.out.now) in
    let v = outside (g.S.Store.contents c.run_job.new.store) (g.S.Store.fault_count c.run_job.new.store) (g.O.Sink.taken_bytes c.run_job.new.out) in
    let change = change_of c.in-Some.engine in
    let bytes = c.in-Ok.source in
    let has : HasBytes w.held command.script bytes = subst (λ n. HasBytes w.held n bytes) c.get-name.ensures c.in-Ok.ensures.sourced.0 in
    let is : IsScript change bytes = subst (IsScript change) c.bytes.ensures.value c.in-Some.ensures in
    let stays : Stays w x = record { held = c.read_script.ensures.kept; failed = c.read_script.ensures.later; taken = refl } in
    job_stops request w x v command (special change) (refl, (bytes, has, c.in-Ok.ensures.sourced.1, is)) stays c.run_job.result c.run_job.ensures.halts

pub returns-in-Err-Refused-prepared-clause-finishes : goal.returns-in-Err-Refused-prepared-clause-finishes
returns-in-Err-Refused-prepared-clause-finishes g c =
    let command = c.args.command.now in
    let request = Some (Run command) in
    let w = outside (g.S.Store.contents c.args.store.now) (g.S.Store.fault_count c.args.store.now) (g.O.Sink.taken_bytes c.args.out.now) in
    let v = outside (g.S.Store.contents c.read_script.new.store) (g.S.Store.fault_count c.read_script.new.store) (g.O.Sink.taken_bytes c.refuse_script-in-Err-Refused-prepared.new.out) in
    let error = c.in-Err-Refused-prepared.error in
    let bytes = c.in-Ok.source in
    let has : HasBytes w.held command.script bytes = subst (λ n. HasBytes w.held n bytes) c.get-name.ensures c.in-Ok.ensures.sourced.0 in
    let none : IsNoScript bytes = subst IsNoScript c.bytes.ensures.value c.in_default.ensures in
    let refused : IsRefused bytes error = rw c.in-Err-Refused-prepared.field-0-is at c.in-Err-Refused-prepared.ensures.refused in
    let reason : IsNotRun w.held w.failed v.failed command.script error = inr (bytes, has, c.in-Ok.ensures.sourced.1, none, refused) in
    let r = c.refuse_script-in-Err-Refused-prepared.result in
    let all = subst (λ n. IfOk r (λ status. (status ≡ NoScript) × Appends w.taken v.taken (script_line n error))) c.get-name.ensures c.refuse_script-in-Err-Refused-prepared.ensures.all in
    refused_finishes request w v command error refl reason c.read_script.ensures.kept r all

pub returns-in-Err-Refused-prepared-clause-stops : goal.returns-in-Err-Refused-prepared-clause-stops
returns-in-Err-Refused-prepared-clause-stops g c =
    let command = c.args.command.now in
    let request = Some (Run command) in
    let w = outside (g.S.Store.contents c.args.store.now) (g.S.Store.fault_count c.args.store.now) (g.O.Sink.taken_bytes c.args.out.now) in
    let v = outside (g.S.Store.contents c.read_script.new.store) (g.S.Store.fault_count c.read_script.new.store) (g.O.Sink.taken_bytes c.refuse_script-in-Err-Refused-prepared.new.out) in
    let error = c.in-Err-Refused-prepared.error in
    let bytes = c.in-Ok.source in
    let has : HasBytes w.held command.script bytes = subst (λ n. HasBytes w.held n bytes) c.get-name.ensures c.in-Ok.ensures.sourced.0 in
    let none : IsNoScript bytes = subst IsNoScript c.bytes.ensures.value c.in_default.ensures in
    let refused : IsRefused bytes error = rw c.in-Err-Refused-prepared.field-0-is at c.in-Err-Refused-prepared.ensures.refused in
    let reason : IsNotRun w.held w.failed v.failed command.script error = inr (bytes, has, c.in-Ok.ensures.sourced.1, none, refused) in
    let r = c.refuse_script-in-Err-Refused-prepared.result in
    let front = subst (λ n. OnErr r (AppendsFront w.taken v.taken (script_line n error))) c.get-name.ensures c.refuse_script-in-Err-Refused-prepared.ensures.front in
    refused_stops request w v command error refl reason c.read_script.ensures.kept r front

pub returns-clause-finishes : goal.returns-clause-finishes
returns-clause-finishes g c =
    let command = c.args.command.now in
    let request = Some (Run command) in
    let w = outside (g.S.Store.contents c.args.store.now) (g.S.Store.fault_count c.args.store.now) (g.O.Sink.taken_bytes c.args.out.now) in
    let x = outside (g.S.Store.contents c.read_script.new.store) (g.S.Store.fault_count c.read_script.new.store) (g.O.Sink.taken_bytes c.args.out.now) in
    let v = outside (g.S.Store.contents c.run_job-2.new.store) (g.S.Store.fault_count c.run_job-2.new.store) (g.O.Sink.taken_bytes c.run_job-2.new.out) in
    let bytes = c.in-Ok.source in
    let has : HasBytes w.held command.script bytes = subst (λ n. HasBytes w.held n bytes) c.get-name.ensures c.in-Ok.ensures.sourced.0 in
    let none : IsNoScript bytes = subst IsNoScript c.bytes.ensures.value c.in_default.ensures in
    let stays : Stays w x = record { held = c.read_script.ensures.kept; failed = c.read_script.ensures.later; taken = refl } in
    let r = c.run_job-2.result in
    let completes = subst (λ n. IfOk r (Completes (RunAnswer n) command x v)) c.in-Ok-prepared.ensures.fuel c.run_job-2.ensures.completes in
    job_finishes request w x v command (general bytes) (refl, (bytes, has, c.in-Ok.ensures.sourced.1, (refl, none))) stays r completes

pub returns-clause-stops : goal.returns-clause-stops
returns-clause-stops g c =
    let command = c.args.command.now in
    let request = Some (Run command) in
    let w = outside (g.S.Store.contents c.args.store.now) (g.S.Store.fault_count c.args.store.now) (g.O.Sink.taken_bytes c.args.out.now) in
    let x = outside (g.S.Store.contents c.read_script.new.store) (g.S.Store.fault_count c.read_script.new.store) (g.O.Sink.taken_bytes c.args.out.now) in
    let v = outside (g.S.Store.contents c.run_job-2.new.store) (g.S.Store.fault_count c.run_job-2.new.store) (g.O.Sink.taken_bytes c.run_job-2.new.out) in
    let bytes = c.in-Ok.source in
    let has : HasBytes w.held command.script bytes = subst (λ n. HasBytes w.held n bytes) c.get-name.ensures c.in-Ok.ensures.sourced.0 in
    let none : IsNoScript bytes = subst IsNoScript c.bytes.ensures.value c.in_default.ensures in
    let stays : Stays w x = record { held = c.read_script.ensures.kept; failed = c.read_script.ensures.later; taken = refl } in
    let r = c.run_job-2.result in
    let halts = subst (λ n. OnErr r (Halts (RunAnswer n) command x v)) c.in-Ok-prepared.ensures.fuel c.run_job-2.ensures.halts in
    job_stops request w x v command (general bytes) (refl, (bytes, has, c.in-Ok.ensures.sourced.1, (refl, none))) stays r halts
