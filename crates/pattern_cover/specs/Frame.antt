-- What an expression and the pattern of the same tokens have in common: all but kinds, scalars and comments.
use Rattle.std.specs.Prelude.{ℕ, [], Option, Some, None}
use Rattle.tree_core.specs.Syntax.{Syntax, node, Slots, no_slots, slot, Places, no_places, hole, place}
use Rattle.tree_core.specs.View.{Spot, Row}
use Rattle.type_defs.specs.declared.kind.Kind.TheVariants.{Program}

-- a node with its number and these slots alone: its kind is always the same
abbrev pub framed : Option ℕ → Slots → Syntax
framed from slots = node Program [] slots (record { lead = []; trail = []; inner = [] }) from

abbrev mutual
  -- the numbers of the nodes, their slots and the names of the places
  pub frame : Syntax → Syntax
  frame (node kind scalars slots notes from) = framed from (frame_slots slots)

  pub frame_slots : Slots → Slots
  frame_slots no_slots = no_slots
  frame_slots (slot list places more) = slot list (frame_places places) (frame_slots more)

  pub frame_places : Places → Places
  frame_places no_places = no_places
  frame_places (hole name more) = hole name (frame_places more)
  frame_places (place name t more) = place name (frame t) (frame_places more)

-- the same of a slot and of a place alone
abbrev pub frame_row : Row → Row
frame_row (list, places) = (list, frame_places places)

abbrev pub frame_spot : Spot → Spot
frame_spot (name, None) = (name, None)
frame_spot (name, Some t) = (name, Some (frame t))
