use Rattle.std.proofs.Common.{◌≡◌, take}
use Rattle.tree_core.proofs.units.Units.copied.Given as goal

abbrev pub invariant-loop-unit : goal.invariant-loop-unit
invariant-loop-unit l = l.copied ≡ take l.unit-index l.unit-items
