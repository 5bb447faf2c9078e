use Rattle.std.proofs.Common.{◌≡◌, ◌≤◌, drop}
use Rattle.collections.specs.Reads.{spelled}
use Rattle.collections.proofs.field_values.spelled.Given as goal

abbrev pub invariant-loop-unit : goal.invariant-loop-unit
invariant-loop-unit l = record {
  small : l.value ≤ 9007199254740991;
  spelled : spelled l.value (drop l.unit-index l.units) ≡ spelled 0 l.units;
}
