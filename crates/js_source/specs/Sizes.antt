-- How many places a tree has.
use Rattle.std.specs.Prelude.{ℕ, ◌+◌}
use Rattle.tree_core.specs.Syntax.{Syntax, node, Slots, no_slots, slot, Places, no_places, hole, place}

abbrev mutual
  -- the places of the tree's first node and of all nodes below it, empty ones too
  pub place_count : Syntax → ℕ
  place_count (node kind scalars slots notes from) = slots_places slots

  pub slots_places : Slots → ℕ
  slots_places no_slots = 0
  slots_places (slot list places more) = all_places places + slots_places more

  pub all_places : Places → ℕ
  all_places no_places = 0
  all_places (hole name more) = 1 + all_places more
  all_places (place name t more) = 1 + place_count t + all_places more
