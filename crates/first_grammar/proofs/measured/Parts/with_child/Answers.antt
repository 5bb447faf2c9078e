use Rattle.std.proofs.Common.{◌≡◌, ◌∙◌, ap, false, None, arith}
use Rattle.tree_core.specs.Syntax.{no_places}
use Rattle.tree_core.specs.View.{slot_view, spot}
use Rattle.first_grammar.specs.Growing.{grown_view}
use Rattle.first_grammar.specs.Spells.{one}
use Rattle.first_grammar.proofs.Highest.{rows_with}
use Rattle.first_grammar.proofs.measured.Parts.with_child.Goals as goal

pub invariant_of-result : goal.invariant_of-result
invariant_of-result c =
    let row : slot_view c.single.result ≡ one None (grown_view c.args.grown) = c.single.ensures ∙ ap (λ z. (false, spot z no_places)) c.in_ok-filled.ensures in
    record { measured = rows_with _ _ _ _ _ _ _ c.in_ok-push.ensures.ok row c.args.self.measured (omega (arith, c.args.grown.measured)) c.max-levels.ensures }
