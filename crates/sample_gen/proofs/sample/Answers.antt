use Rattle.std.proofs.Common.{add-one}
use Rattle.std.proofs.lemmas.Grind.{common_steps}
use Rattle.std.proofs.Common.{arith}
use Rattle.sample_gen.specs.Sample.{sample}
use Rattle.sample_gen.proofs.sample.Goals as goal

pub loop-number-preserved : goal.loop-number-preserved
unfolding sample
loop-number-preserved c = rw add-one (grind (arith, common_steps))
