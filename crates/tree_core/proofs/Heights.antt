-- The greatest height in a list of slots or of places.
use Rattle.std.proofs.Common.{ℕ, List, map}
use Rattle.tree_core.specs.declared.tree.Slot.{Slot}
use Rattle.tree_core.specs.declared.tree.Place.{Place}
use Rattle.tree_core.specs.Height.{slots_height, places_height}
use Rattle.tree_core.specs.View.{slot_view, place_view, slots_of, places_of}

abbrev pub height_of_slots : List Slot → ℕ
height_of_slots slots = slots_height (slots_of (map slot_view slots))

abbrev pub height_of_places : List Place → ℕ
height_of_places places = places_height (places_of (map place_view places))
