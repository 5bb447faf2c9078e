-- How deep a tree is.
use Rattle.std.specs.Prelude.{ℕ, ◌+◌, max}
use Rattle.tree_core.specs.Syntax.{Syntax, node, Slots, no_slots, slot, Places, no_places, hole, place}

abbrev mutual
  -- the greatest depth of a node, the first node having depth 1
  pub height : Syntax → ℕ
  height (node kind scalars slots notes from) = 1 + slots_height slots

  pub slots_height : Slots → ℕ
  slots_height no_slots = 0
  slots_height (slot list places more) = max (places_height places) (slots_height more)

  pub places_height : Places → ℕ
  places_height no_places = 0
  places_height (hole name more) = places_height more
  places_height (place name t more) = max (height t) (places_height more)
