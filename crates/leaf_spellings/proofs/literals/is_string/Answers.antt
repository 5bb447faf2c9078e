use Rattle.std.proofs.Common.{arith, rules}
use Rattle.std.proofs.lemmas.Result.{IfOk-weaker}
use Rattle.leaf_spellings.proofs.LiteralLeaves.{a_string}
use Rattle.leaf_spellings.proofs.literals.is_string.Goals as goal

pub returns-in-Some-Text-Null : goal.returns-in-Some-Text-Null
returns-in-Some-Text-Null c = IfOk-weaker c.spells_string.result _ _
    (λ held spelled yes. a_string c.args.source.now c.args.span c.args.token c.args.scalars.now c.get.result.now c.requires.begins (omega arith) c.requires.sort (search rules)
    (rw (← c.bytes.ensures.value) (spelled yes)))
    c.spells_string.ensures
