use Rattle.first_grammar.proofs.Highest.{rows_with}
use Rattle.first_grammar.proofs.measured.Parts.with_list.Goals as goal

pub invariant_of-result : goal.invariant_of-result
invariant_of-result c = record { measured = rows_with _ _ _ _ _ _ _ c.in_ok-push.ensures.ok c.list.ensures c.args.self.measured c.args.children.measured c.max-levels.ensures }
