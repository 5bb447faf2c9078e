-- The numbers of the nodes and the names of the places: nodes are numbered in preorder, and a place is
-- named by its node's number and by its own number among the node's places.
use Rattle.std.specs.Prelude.{ℕ, ◌+◌, List, Option, Some, None, slice_get, unwrap_or}
use Rattle.tree_core.specs.declared.span.Span.{Span}
use Rattle.tree_core.specs.declared.tree.PlaceName.{PlaceName}
use Rattle.tree_core.specs.Syntax.{Syntax, node, Slots, no_slots, slot, Places, no_places, hole, place}

abbrev mutual
  -- how many nodes
  pub count : Syntax → ℕ
  count (node kind scalars slots notes from) = 1 + slots_count slots

  pub slots_count : Slots → ℕ
  slots_count no_slots = 0
  slots_count (slot list places more) = places_count places + slots_count more

  pub places_count : Places → ℕ
  places_count no_places = 0
  places_count (hole name more) = places_count more
  places_count (place name x more) = count x + places_count more

-- how many places
abbrev pub places_length : Places → ℕ
places_length no_places = 0
places_length (hole name more) = 1 + places_length more
places_length (place name x more) = 1 + places_length more

abbrev pub name_of : ℕ → ℕ → Option PlaceName
name_of parent child = Some (record { node = parent; child = child })

abbrev mutual
  -- the tree with its nodes numbered from n on
  pub numbered : ℕ → Syntax → Syntax
  numbered n (node kind scalars slots notes from) = node kind scalars (numbered_slots n 0 (n + 1) slots) notes (Some n)

  -- slots of the parent, from this child on
  pub numbered_slots : ℕ → ℕ → ℕ → Slots → Slots
  numbered_slots parent child n no_slots = no_slots
  numbered_slots parent child n (slot list places more) = slot list (numbered_places parent child n places) (numbered_slots parent (child + places_length places) (n + places_count places) more)

  pub numbered_places : ℕ → ℕ → ℕ → Places → Places
  numbered_places parent child n no_places = no_places
  numbered_places parent child n (hole name more) = hole (name_of parent child) (numbered_places parent (child + 1) n more)
  numbered_places parent child n (place name x more) = place (name_of parent child) (numbered n x) (numbered_places parent (child + 1) (n + count x) more)

abbrev pub nowhere : Span
nowhere = record { start = 0; end = 0 }

abbrev pub span_of : List Span → Option ℕ → Span
span_of spans None = nowhere
span_of spans (Some n) = unwrap_or (slice_get spans n) nowhere
