use Rattle.std.proofs.Common.{◌≡◌}
use Rattle.sample_gen.specs.Sample.{sample}
use Rattle.sample_gen.proofs.sample.Given as goal

abbrev pub invariant-loop-number : goal.invariant-loop-number
invariant-loop-number l = l.all.items ≡ sample l.number
