use Rattle.std.proofs.Common.{arith, rules}
use Rattle.std.proofs.lemmas.List.{take_rest}
use Rattle.leaf_spellings.proofs.LiteralLeaves.{a_pattern}
use Rattle.leaf_spellings.proofs.literals.spells_regex.Goals as goal

pub returns-in_ok-spells_written-2 : goal.returns-in_ok-spells_written-2
returns-in_ok-spells_written-2 c = λ yes. a_pattern c.args.text.now c.flags_at-at.result c.args.pattern.now c.args.flags.now
    (omega arith) c.flags_at-at.ensures.within (c.flags_at-at.ensures.behind (omega arith)) c.flags_at-at.ensures.last (search rules)
    (rw (take_rest c.args.text.now c.flags_at-at.result) at (c.in_ok-spells_written-2.ensures yes))
