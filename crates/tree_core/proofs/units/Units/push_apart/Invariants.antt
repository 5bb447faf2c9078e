use Rattle.std.proofs.Common.{◌≡◌, take}
use Rattle.tree_core.proofs.units.Units.push_apart.Given as goal

abbrev pub invariant-loop-unit : goal.invariant-loop-unit
invariant-loop-unit l = l.units.items ≡ take l.unit-index l.unit-items
