use Rattle.std.proofs.Common.{arith, rules}
use Rattle.std.proofs.lemmas.Result.{IfOk-weaker}
use Rattle.leaf_spellings.proofs.LiteralLeaves.{a_regex}
use Rattle.leaf_spellings.proofs.literals.is_regex.Goals as goal

pub returns-in-Regex-Some-Text-Text : goal.returns-in-Regex-Some-Text-Text
returns-in-Regex-Some-Text-Text c = IfOk-weaker c.spells_regex.result _ _
    (λ held spelled yes. a_regex c.args.source.now c.args.span c.args.first c.in-Ok.token c.args.scalars.now c.get.result.now c.get-in-Regex-Some-Text-Text.result.now
    c.requires (search rules) (omega arith) (search rules) (search rules) (rw (← c.bytes.ensures.value) (spelled yes)))
    c.spells_regex.ensures
