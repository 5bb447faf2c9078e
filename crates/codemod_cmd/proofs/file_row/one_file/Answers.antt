use Rattle.std.proofs.Common.{rules, ◌≡◌, refl, subst}
use Rattle.std.specs.Io.KnownBytes.{Appends}
use Rattle.cm_store.specs.Faults.{Rose}
use Rattle.cm_store.specs.Writing.{AppendsFront}
use Rattle.run_report.specs.Texts.{row_line}
use Rattle.run_report.specs.declared.answer.RowAnswer.TheVariants.{Error}
use Rattle.run_report.specs.declared.answer.RowError.TheVariants.{WriteFault}
use Rattle.codemod_cmd.specs.Rows.{unwritten}
use Rattle.codemod_cmd.specs.FileRows.{row_of, IsUnwritten}
use Rattle.codemod_cmd.proofs.Written.{faulted}
use Rattle.codemod_cmd.proofs.file_row.one_file.Goals as goal

pub returns-in-Ok-write-2-clause-ends : goal.returns-in-Ok-write-2-clause-ends
returns-in-Ok-write-2-clause-ends g c =
    let held = g.S.Store.contents c.args.store.now in
    let mid = g.S.Store.contents c.row_of_file.new.store in
    let now = g.S.Store.contents c.keep_text.new.store in
    let name = c.args.name.now in
    let dry = c.args.job.now.command.now.dry in
    let old = g.O.Sink.taken_bytes c.args.out.now in
    let new = g.O.Sink.taken_bytes c.write-in-Err-Failed.new.out in
    let failed : IsUnwritten dry mid now name (row_of c.in-Ok.row) = search rules in
    let rose : Rose (g.S.Store.fault_count c.row_of_file.new.store) (g.S.Store.fault_count c.keep_text.new.store) = search rules in
    let text : c.deref-in-Err-Failed.result.now ≡ row_line name (Error WriteFault) = search rules in
    let all : Appends (g.O.Sink.taken_bytes c.prepare.new.out) new c.deref-in-Err-Failed.result.now = search rules in
    let row = faulted (g.E.Engine.says c.args.job.now.engine.now) dry name (row_of c.in-Ok.row) held mid now _ _ _ old new c.in-Ok.ensures.kept c.in-Ok.ensures.row failed c.in-Ok.ensures.later rose in
    (unwritten failed.0 failed.1, refl, row, subst (λ t. Appends t new (row_line name (Error WriteFault))) c.prepare.ensures.kept (subst (λ b. Appends (g.O.Sink.taken_bytes c.prepare.new.out) new b) text all))

pub returns-in-Err-Failed-clause-ends : goal.returns-in-Err-Failed-clause-ends
returns-in-Err-Failed-clause-ends g c =
    let held = g.S.Store.contents c.args.store.now in
    let mid = g.S.Store.contents c.row_of_file.new.store in
    let now = g.S.Store.contents c.keep_text.new.store in
    let name = c.args.name.now in
    let dry = c.args.job.now.command.now.dry in
    let old = g.O.Sink.taken_bytes c.args.out.now in
    let new = g.O.Sink.taken_bytes c.write-in-Err-Failed.new.out in
    let failed : IsUnwritten dry mid now name (row_of c.in-Ok.row) = search rules in
    let rose : Rose (g.S.Store.fault_count c.row_of_file.new.store) (g.S.Store.fault_count c.keep_text.new.store) = search rules in
    let text : c.deref-in-Err-Failed.result.now ≡ row_line name (Error WriteFault) = search rules in
    let front : AppendsFront (g.O.Sink.taken_bytes c.prepare.new.out) new c.deref-in-Err-Failed.result.now = search rules in
    let row = faulted (g.E.Engine.says c.args.job.now.engine.now) dry name (row_of c.in-Ok.row) held mid now _ _ _ old new c.in-Ok.ensures.kept c.in-Ok.ensures.row failed c.in-Ok.ensures.later rose in
    (unwritten failed.0 failed.1, row, subst (λ t. AppendsFront t new (row_line name (Error WriteFault))) c.prepare.ensures.kept (subst (λ b. AppendsFront (g.O.Sink.taken_bytes c.prepare.new.out) new b) text front))
