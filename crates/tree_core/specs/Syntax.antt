-- A syntax tree as plain data: what contracts say of a `Tree` they say of this.
use Rattle.std.specs.Prelude.{ℕ, Bool, List, Option}
use Rattle.type_defs.specs.declared.kind.Kind.{Kind}
use Rattle.tree_core.specs.declared.scalars.Scalar.{Scalar}
use Rattle.tree_core.specs.Notes.{Notes}
use Rattle.tree_core.specs.declared.tree.PlaceName.{PlaceName}

mutual
  -- a kind, scalars, slots, comments, and the number of the source node that it comes from
  pub data Syntax : Type 0 where
    node : Kind → List Scalar → Slots → Notes → Option ℕ → Syntax

  -- slots in order; the truth says whether the slot is a list
  pub data Slots : Type 0 where
    no_slots : Slots
    slot : Bool → Places → Slots → Slots

  -- places in order, each with its name in the source, empty or filled
  pub data Places : Type 0 where
    no_places : Places
    hole : Option PlaceName → Places → Places
    place : Option PlaceName → Syntax → Places → Places
