-- The node at an address.
use Rattle.std.specs.Prelude.{ℕ, List, [], ◌∷◌, ◌++◌, Option, Some, None, slice_get}
use Rattle.std.specs.Option.{option_flatten, option_and_then}
use Rattle.tree_core.specs.Syntax.{Syntax, node, Slots, no_slots, slot, Places, no_places, hole, place}

-- what stands in the places, in order
abbrev pub in_places : Places → List (Option Syntax)
in_places no_places = []
in_places (hole name more) = None ∷ in_places more
in_places (place name t more) = Some t ∷ in_places more

abbrev pub in_slots : Slots → List (Option Syntax)
in_slots no_slots = []
in_slots (slot list places more) = in_places places ++ in_slots more

-- the child of this number, counted from 0 over the places of all slots, empty ones too
abbrev pub child_at : ℕ → Syntax → Option Syntax
child_at number (node kind scalars slots notes from) = option_flatten (slice_get (in_slots slots) number)

-- the node that these steps lead to, each the number of a child
abbrev pub node_at : List ℕ → Syntax → Option Syntax
node_at [] t = Some t
node_at (number ∷ steps) t = option_and_then (node_at steps) (child_at number t)
