use Rattle.codemod_cmd.proofs.Plain.{plain_b}
use Rattle.codemod_cmd.proofs.sampling.sample_lines.Goals as goal

pub invariant_of-transform : goal.invariant_of-transform
invariant_of-transform c = record { lawful = plain_b }
