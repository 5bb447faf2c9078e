use Rattle.std.proofs.Common.{sym, subst}
use Rattle.codemod_cmd.specs.FileAnswer.{FileAnswer, IsSource, HasNoTree}
use Rattle.codemod_cmd.specs.Changes.{change_of}
use Rattle.codemod_cmd.proofs.Refusals.{other_refused}
use Rattle.codemod_cmd.proofs.answering.of_other.Goals as goal

pub returns-in-Err-Syntax : goal.returns-in-Err-Syntax
returns-in-Err-Syntax c =
    let s = c.args.source in
    let fault = c.in-Err-Syntax.fault in
    let within = rw c.in-Err-Syntax.field-0-is at c.in-Err-Syntax.ensures.refused in
    let tells : IsSource s × HasNoTree s fault.at fault.kind = (c.requires.source, other_refused s fault.at fault.kind c.requires.other within) in
    subst (λ a. FileAnswer (change_of c.args.change.now) s a c.refused.result.text.items) (sym c.refused.ensures) tells
