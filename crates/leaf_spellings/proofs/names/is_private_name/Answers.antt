use Rattle.std.proofs.Common.{arith, rules}
use Rattle.std.proofs.lemmas.Result.{IfOk-weaker}
use Rattle.leaf_spellings.proofs.NameLeaves.{a_private_name}
use Rattle.leaf_spellings.proofs.names.is_private_name.Goals as goal

pub returns-in-Private-Some : goal.returns-in-Private-Some
returns-in-Private-Some c = IfOk-weaker c.spells_name.result _ _
    (λ held spelled yes. a_private_name c.args.source.now c.args.span c.args.token c.args.scalars.now c.in-Private-Some.text.now
    c.requires (omega arith) (search rules) (search rules) (spelled yes))
    c.spells_name.ensures
