-- The code units that a text held in place or not stands for.
use Rattle.std.specs.Prelude.{ℕ, List, take}
use Rattle.tree_core.specs.declared.units.Stored.{Stored}
use Rattle.tree_core.specs.declared.units.Stored.TheVariants.{InPlace, Apart}

abbrev pub stored_units : Stored → List ℕ
stored_units (InPlace short) = take short.count short.units
stored_units (Apart units) = units.items
