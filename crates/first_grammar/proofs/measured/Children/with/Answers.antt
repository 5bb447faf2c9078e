use Rattle.first_grammar.proofs.Highest.{places_with}
use Rattle.first_grammar.proofs.measured.Children.with.Goals as goal

pub invariant_of-result : goal.invariant_of-result
invariant_of-result c = record { measured = places_with _ _ _ _ _ _ _ c.in_ok-push.ensures.ok c.in_ok-filled.ensures c.args.self.measured c.args.grown.measured c.max-levels.ensures }
