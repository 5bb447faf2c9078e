use Rattle.std.proofs.Common.{◌≡◌, min, max, drop}
use Rattle.tree_core.specs.Height.{places_height}
use Rattle.tree_core.specs.View.{slot_view}
use Rattle.tree_core.proofs.Heights.{height_of_slots, height_of_places}
use Rattle.tree_core.proofs.depth.+height.Given as goal

abbrev pub invariant-height-loop-slot : goal.invariant-height-loop-slot
invariant-height-loop-slot l =
    max l.below (min (height_of_slots (drop l.slot-index l.slot-items)) 4294967295) ≡ min (height_of_slots l.tree.slots) 4294967295

abbrev pub invariant-slot_height-loop-place : goal.invariant-slot_height-loop-place
invariant-slot_height-loop-place l =
    max l.below (min (height_of_places (drop l.place-index l.place-items)) 4294967295) ≡ min (places_height (slot_view l.slot).1) 4294967295
