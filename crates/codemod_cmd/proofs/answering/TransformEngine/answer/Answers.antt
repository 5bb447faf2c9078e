use Rattle.std.proofs.Common.{sym, subst, ◌∙◌}
use Rattle.std.specs.Prelude.{IfOk}
use Rattle.codemod_cmd.specs.Changes.{change_of}
use Rattle.codemod_cmd.specs.FileAnswer.{FileAnswer}
use Rattle.codemod_cmd.proofs.Refusals.{source_of_bytes}
use Rattle.codemod_cmd.proofs.answering.TransformEngine.answer.Goals as goal

pub returns-in-Ok : goal.returns-in-Ok
returns-in-Ok c =
    let change = change_of c.args.self.now in
    let same = source_of_bytes c.args.bytes.items c.in-Ok.source (sym c.new.ensures ∙ c.in-Ok.is) in
    subst (λ s. IfOk c.of_source.result (λ o. FileAnswer change s o.answer o.text.items)) same c.of_source.ensures
