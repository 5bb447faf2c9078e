use Rattle.std.proofs.Common.{◌≡◌, ◌+◌, ◌∷◌, [], refl, sym, subst}
use Rattle.std.specs.Prelude.{IfOk, OnOk, OnErr}
use Rattle.std.specs.Io.KnownBytes.{Appends}
use Rattle.cm_store.specs.Writing.{AppendsFront}
use Rattle.run_report.specs.Texts.{row_line}
use Rattle.run_report.specs.declared.answer.RowAnswer.TheVariants.{Error}
use Rattle.codemod_cmd.specs.Folders.{place, places, inside, unnamed_rows, IsFile, IsFolder, IsUnlisted}
use Rattle.codemod_cmd.specs.Rows.{faults_in, Rises, shown_all, counted_all}
use Rattle.codemod_cmd.specs.Session.{outside, Stays, FileTells, FileBreaks, Tells, Breaks}
use Rattle.codemod_cmd.specs.Sights.{IsSight, sight_faults}
use Rattle.codemod_cmd.proofs.Fronts.{on_err}
use Rattle.codemod_cmd.proofs.Going.{tells_file, breaks_file, tells_refused, breaks_refused, tells_opened, breaks_opened, tells_moved, breaks_moved, breaks_none}
use Rattle.codemod_cmd.proofs.walking.visit.Goals as goal

pub returns-in_default-clause-breaks : goal.returns-in_default-clause-breaks
returns-in_default-clause-breaks g c =
    let says = g.E.Engine.says c.args.job.now.engine.now in
    let command = c.args.job.now.command.now in
    let p = place c.args.level c.args.pending.now in
    let held = g.S.Store.contents c.args.store.now in
    let before = g.S.Store.fault_count c.args.store.now in
    let w = outside (g.S.Store.contents c.args.store.now) (g.S.Store.fault_count c.args.store.now) (g.O.Sink.taken_bytes c.args.out.now) in
    let x = outside (g.S.Store.contents c.look.new.store) (g.S.Store.fault_count c.look.new.store) (g.O.Sink.taken_bytes c.args.out.now) in
    breaks_none says command (p ∷ []) w x (record { held = c.look.ensures.kept; failed = c.look.ensures.later; taken = refl })

pub returns-in_err-file-in-File-clause-breaks : goal.returns-in_err-file-in-File-clause-breaks
returns-in_err-file-in-File-clause-breaks g c =
    let says = g.E.Engine.says c.args.job.now.engine.now in
    let command = c.args.job.now.command.now in
    let p = place c.args.level c.args.pending.now in
    let held = g.S.Store.contents c.args.store.now in
    let before = g.S.Store.fault_count c.args.store.now in
    let w = outside (g.S.Store.contents c.args.store.now) (g.S.Store.fault_count c.args.store.now) (g.O.Sink.taken_bytes c.args.out.now) in
    let x = outside (g.S.Store.contents c.look.new.store) (g.S.Store.fault_count c.look.new.store) (g.O.Sink.taken_bytes c.args.out.now) in
    let stays : Stays w x = record { held = c.look.ensures.kept; failed = c.look.ensures.later; taken = refl } in
    let sight : IsSight x.held p c.in-Ok.sight = subst (λ h. IsSight h p c.in-Ok.sight) (sym c.look.ensures.kept) c.in-Ok.ensures.sight in
    let v = outside (g.S.Store.contents c.file.new.store) (g.S.Store.fault_count c.file.new.store) (g.O.Sink.taken_bytes c.file.new.out) in
    let is : IsFile x.held p = subst (IsSight x.held p) c.in-File.is sight in
    let row = subst (λ n. FileBreaks says command n x v) c.get-name.ensures c.in_err-file-in-File.ensures.breaks in
    on_err (Breaks says command (p ∷ []) w v) c.from_residual.result (breaks_moved says command (p ∷ []) w x v stays (breaks_file says command p x v is row))

pub returns-in_ok-file-in-File-clause-tells : goal.returns-in_ok-file-in-File-clause-tells
returns-in_ok-file-in-File-clause-tells g c =
    let says = g.E.Engine.says c.args.job.now.engine.now in
    let command = c.args.job.now.command.now in
    let p = place c.args.level c.args.pending.now in
    let held = g.S.Store.contents c.args.store.now in
    let before = g.S.Store.fault_count c.args.store.now in
    let w = outside (g.S.Store.contents c.args.store.now) (g.S.Store.fault_count c.args.store.now) (g.O.Sink.taken_bytes c.args.out.now) in
    let x = outside (g.S.Store.contents c.look.new.store) (g.S.Store.fault_count c.look.new.store) (g.O.Sink.taken_bytes c.args.out.now) in
    let stays : Stays w x = record { held = c.look.ensures.kept; failed = c.look.ensures.later; taken = refl } in
    let sight : IsSight x.held p c.in-Ok.sight = subst (λ h. IsSight h p c.in-Ok.sight) (sym c.look.ensures.kept) c.in-Ok.ensures.sight in
    let v = outside (g.S.Store.contents c.file.new.store) (g.S.Store.fault_count c.file.new.store) (g.O.Sink.taken_bytes c.file.new.out) in
    let is : IsFile x.held p = subst (IsSight x.held p) c.in-File.is sight in
    let row = subst (λ n. FileTells says command n c.args.counts.now c.file.new.counts x v) c.get-name.ensures c.in_ok-file-in-File.ensures.tells in
    let told = tells_moved says command (p ∷ []) [] c.args.counts.now c.file.new.counts w x v stays (tells_file says command p c.args.counts.now c.file.new.counts x v is row) in
    subst (λ l. Tells says command (p ∷ []) (places (c.args.level + 1) l) c.args.counts.now c.file.new.counts w v) (sym c.new.ensures.items) told

pub returns-in_err-refuse-in-Refused-clause-breaks : goal.returns-in_err-refuse-in-Refused-clause-breaks
returns-in_err-refuse-in-Refused-clause-breaks g c =
    let says = g.E.Engine.says c.args.job.now.engine.now in
    let command = c.args.job.now.command.now in
    let p = place c.args.level c.args.pending.now in
    let held = g.S.Store.contents c.args.store.now in
    let before = g.S.Store.fault_count c.args.store.now in
    let w = outside (g.S.Store.contents c.args.store.now) (g.S.Store.fault_count c.args.store.now) (g.O.Sink.taken_bytes c.args.out.now) in
    let v = outside (g.S.Store.contents c.look.new.store) (g.S.Store.fault_count c.look.new.store) (g.O.Sink.taken_bytes c.refuse.new.out) in
    let error = c.in-Refused.error in
    let is : IsUnlisted held p error = subst (IsSight held p) c.in-Refused.is c.in-Ok.ensures.sight in
    let rises : Rises (faults_in error) before v.failed = subst (λ s. Rises (sight_faults s) before v.failed) c.in-Refused.is c.in-Ok.ensures.rises in
    let front = subst (λ n. AppendsFront w.taken v.taken (row_line n (Error error))) c.get-name.ensures c.in_err-refuse-in-Refused.ensures.front in
    on_err (Breaks says command (p ∷ []) w v) c.from_residual-in_err-refuse-in-Refused.result (breaks_refused says command p error w v is c.look.ensures.kept rises front)

pub returns-in_ok-refuse-in-Refused-clause-tells : goal.returns-in_ok-refuse-in-Refused-clause-tells
returns-in_ok-refuse-in-Refused-clause-tells g c =
    let says = g.E.Engine.says c.args.job.now.engine.now in
    let command = c.args.job.now.command.now in
    let p = place c.args.level c.args.pending.now in
    let held = g.S.Store.contents c.args.store.now in
    let before = g.S.Store.fault_count c.args.store.now in
    let w = outside (g.S.Store.contents c.args.store.now) (g.S.Store.fault_count c.args.store.now) (g.O.Sink.taken_bytes c.args.out.now) in
    let v = outside (g.S.Store.contents c.look.new.store) (g.S.Store.fault_count c.look.new.store) (g.O.Sink.taken_bytes c.refuse.new.out) in
    let error = c.in-Refused.error in
    let is : IsUnlisted held p error = subst (IsSight held p) c.in-Refused.is c.in-Ok.ensures.sight in
    let rises : Rises (faults_in error) before v.failed = subst (λ s. Rises (sight_faults s) before v.failed) c.in-Refused.is c.in-Ok.ensures.rises in
    let all = subst (λ n. Appends w.taken v.taken (row_line n (Error error))) c.get-name.ensures c.in_ok-refuse-in-Refused.ensures.all in
    let told = tells_refused says command p error c.args.counts.now c.refuse.new.counts w v is c.look.ensures.kept rises all c.in_ok-refuse-in-Refused.ensures.counts in
    subst (λ l. Tells says command (p ∷ []) (places (c.args.level + 1) l) c.args.counts.now c.refuse.new.counts w v) (sym c.new-in-Refused.ensures.items) told

pub returns-in-Folder-clause-tells : goal.returns-in-Folder-clause-tells
returns-in-Folder-clause-tells g c =
    let says = g.E.Engine.says c.args.job.now.engine.now in
    let command = c.args.job.now.command.now in
    let p = place c.args.level c.args.pending.now in
    let held = g.S.Store.contents c.args.store.now in
    let before = g.S.Store.fault_count c.args.store.now in
    let w = outside (g.S.Store.contents c.args.store.now) (g.S.Store.fault_count c.args.store.now) (g.O.Sink.taken_bytes c.args.out.now) in
    let v = outside (g.S.Store.contents c.look.new.store) (g.S.Store.fault_count c.look.new.store) (g.O.Sink.taken_bytes c.open_folder.new.out) in
    let entries = c.in-Folder.entries in
    let unnamed = c.in-Folder.unnamed in
    let name = c.get-name.result.now in
    let is : IsFolder held p entries unnamed = subst (IsSight held p) c.in-Folder.is c.in-Ok.ensures.sight in
    let r = c.open_folder.result in
    let names : IfOk r (λ l. l.items ≡ inside command.extensions p.name entries) = subst (λ n. IfOk r (λ l. l.items ≡ inside command.extensions n entries)) c.get-name.ensures c.open_folder.ensures.names in
    let all : OnOk r (Appends w.taken v.taken (shown_all command.print (unnamed_rows p.name unnamed))) =
    subst (λ n. OnOk r (Appends w.taken v.taken (shown_all command.print (unnamed_rows n unnamed)))) c.get-name.ensures c.open_folder.ensures.all in
    let counts : OnOk r (c.open_folder.new.counts ≡ counted_all c.args.counts.now (unnamed_rows p.name unnamed)) =
    subst (λ n. OnOk r (c.open_folder.new.counts ≡ counted_all c.args.counts.now (unnamed_rows n unnamed))) c.get-name.ensures c.open_folder.ensures.counts in
    tells_opened says command p entries unnamed c.args.counts.now c.open_folder.new.counts w v r is c.look.ensures.kept c.look.ensures.later names all counts

pub returns-in-Folder-clause-breaks : goal.returns-in-Folder-clause-breaks
returns-in-Folder-clause-breaks g c =
    let says = g.E.Engine.says c.args.job.now.engine.now in
    let command = c.args.job.now.command.now in
    let p = place c.args.level c.args.pending.now in
    let held = g.S.Store.contents c.args.store.now in
    let before = g.S.Store.fault_count c.args.store.now in
    let w = outside (g.S.Store.contents c.args.store.now) (g.S.Store.fault_count c.args.store.now) (g.O.Sink.taken_bytes c.args.out.now) in
    let v = outside (g.S.Store.contents c.look.new.store) (g.S.Store.fault_count c.look.new.store) (g.O.Sink.taken_bytes c.open_folder.new.out) in
    let entries = c.in-Folder.entries in
    let unnamed = c.in-Folder.unnamed in
    let is : IsFolder held p entries unnamed = subst (IsSight held p) c.in-Folder.is c.in-Ok.ensures.sight in
    let r = c.open_folder.result in
    let front : OnErr r (AppendsFront w.taken v.taken (shown_all command.print (unnamed_rows p.name unnamed))) =
    subst (λ n. OnErr r (AppendsFront w.taken v.taken (shown_all command.print (unnamed_rows n unnamed)))) c.get-name.ensures c.open_folder.ensures.front in
    breaks_opened says command p entries unnamed w v r is c.look.ensures.kept c.look.ensures.later front
