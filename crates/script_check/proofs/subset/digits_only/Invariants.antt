use Rattle.std.proofs.Common.{◌≡◌, drop}
use Rattle.script_check.specs.Subset.{is_digits}
use Rattle.script_check.proofs.subset.digits_only.Given as goal

abbrev pub invariant-loop-unit : goal.invariant-loop-unit
invariant-loop-unit l = is_digits (drop l.unit-index l.raw) ≡ is_digits l.raw
