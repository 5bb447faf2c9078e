use Rattle.std.proofs.Common.{rules}
use Rattle.std.proofs.lemmas.Result.{IfOk-weaker}
use Rattle.leaf_spellings.proofs.StatementLeaves.{a_directive}
use Rattle.leaf_spellings.proofs.statements.is_directive.Goals as goal

pub returns-in-Quoted-Some : goal.returns-in-Quoted-Some
returns-in-Quoted-Some c = IfOk-weaker c.spells_written.result _ _
    (λ held spelled yes. a_directive c.args.source.now c.args.span c.args.token c.args.scalars.now c.in-Quoted-Some.text.now c.requires (search rules) (search rules)
    (rw (← c.bytes.ensures.value) (spelled yes)) (search rules))
    c.spells_written.ensures
