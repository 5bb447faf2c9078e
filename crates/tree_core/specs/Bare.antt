-- A tree without its numbers and place names.
use Rattle.std.specs.Prelude.{None}
use Rattle.tree_core.specs.Syntax.{Syntax, node, Slots, no_slots, slot, Places, no_places, hole, place}

abbrev mutual
  pub bare : Syntax → Syntax
  bare (node kind scalars slots notes from) = node kind scalars (bare_slots slots) notes None

  pub bare_slots : Slots → Slots
  bare_slots no_slots = no_slots
  bare_slots (slot list places more) = slot list (bare_places places) (bare_slots more)

  pub bare_places : Places → Places
  bare_places no_places = no_places
  bare_places (hole name more) = hole None (bare_places more)
  bare_places (place name t more) = place None (bare t) (bare_places more)
