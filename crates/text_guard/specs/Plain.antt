-- A tree without its comments, its numbers and its place names.
use Rattle.std.specs.Prelude.{[], None}
use Rattle.tree_core.specs.Notes.{Notes}
use Rattle.tree_core.specs.Syntax.{Syntax, node, Slots, no_slots, slot, Places, no_places, hole, place}

abbrev pub no_notes : Notes
no_notes = record { lead = []; trail = []; inner = [] }

abbrev mutual
  pub plain : Syntax → Syntax
  plain (node kind scalars slots notes from) = node kind scalars (plain_slots slots) no_notes None

  pub plain_slots : Slots → Slots
  plain_slots no_slots = no_slots
  plain_slots (slot list places more) = slot list (plain_places places) (plain_slots more)

  pub plain_places : Places → Places
  plain_places no_places = no_places
  plain_places (hole name more) = hole None (plain_places more)
  plain_places (place name t more) = place None (plain t) (plain_places more)
