-- The list that scalars held in place or not stand for.
use Rattle.std.specs.Prelude.{List, [], ◌∷◌}
use Rattle.tree_core.specs.declared.scalars.Scalar.{Scalar}
use Rattle.tree_core.specs.declared.scalars.Held.{Held}
use Rattle.tree_core.specs.declared.scalars.Held.TheVariants.{Nothing, One, Many}

abbrev pub held_list : Held → List Scalar
held_list Nothing = []
held_list (One a) = a ∷ []
held_list (Many all) = all
