use Rattle.std.proofs.Common.{sym, ◌∙◌}
use Rattle.type_defs.proofs.SameKind.{same_kinds, kinds_same}
use Rattle.type_defs.proofs.kind.Kind.is.Goals as goal

pub returns : goal.returns
returns c = ((λ h. same_kinds _ _ (sym c.eq.ensures ∙ h)), (λ e. c.eq.ensures ∙ kinds_same _ _ e))
