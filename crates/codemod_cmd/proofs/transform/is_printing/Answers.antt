use Rattle.codemod_cmd.specs.Script.{printing}
use Rattle.codemod_cmd.proofs.transform.is_printing.Goals as goal

pub returns-in-None : goal.returns-in-None
unfolding printing
returns-in-None c = (λ h. (cc), λ p. absurd (c.in-None.ensures p.0 p.2))
