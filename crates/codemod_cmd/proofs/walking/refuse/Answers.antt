use Rattle.std.proofs.Common.{refl}
use Rattle.cm_store.specs.Writing.{AppendsFront}
use Rattle.run_report.specs.Texts.{row_line}
use Rattle.run_report.specs.declared.answer.RowAnswer.TheVariants.{Error}
use Rattle.codemod_cmd.proofs.Fronts.{on_err, front_none}
use Rattle.codemod_cmd.proofs.walking.refuse.Goals as goal

-- the row's line could not be made, so nothing is written
pub returns-in_err-line-clause-front : goal.returns-in_err-line-clause-front
returns-in_err-line-clause-front g c =
    let taken = g.O.Sink.taken_bytes c.args.out.now in
    let line = row_line c.args.name.now (Error c.args.error) in
    on_err (AppendsFront taken taken line) c.from_residual.result (front_none taken taken line refl)
