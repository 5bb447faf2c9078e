use Rattle.std.proofs.Common.{arith, rules}
use Rattle.std.proofs.lemmas.Result.{IfOk-weaker}
use Rattle.leaf_spellings.proofs.NameLeaves.{a_name}
use Rattle.leaf_spellings.proofs.names.is_name.Goals as goal

pub returns-in-Name-Some : goal.returns-in-Name-Some
returns-in-Name-Some c = IfOk-weaker c.spells_name.result _ _
    (λ held spelled yes. a_name c.args.source.now c.args.span c.args.token c.in-Name-Some.field-0-0 c.args.scalars.now c.in-Name-Some.text.now
    c.requires (omega arith) (search rules) (search rules) (spelled yes))
    c.spells_name.ensures
