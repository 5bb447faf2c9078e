use Rattle.std.proofs.Common.{◌≡◌, ◌≤◌, ◌+◌, ◌*◌, length, map}
use Rattle.tree_core.specs.Height.{slots_height, places_height}
use Rattle.tree_core.specs.Numbers.{slots_count, places_count, places_length, numbered_slots, numbered_places}
use Rattle.tree_core.specs.View.{slot_view, place_view, slots_of, places_of}
use Rattle.js_source.specs.Leaves.{SlotsSpelled, PlacesSpelled}
use Rattle.js_source.specs.Nested.{Grows, SlotsNested, PlacesNested}
use Rattle.js_source.specs.Shaped.{SlotsInShape, PlacesInShape}
use Rattle.js_source.specs.Sizes.{slots_places, all_places}
use Rattle.js_source.proofs.Numberings.{slots_length}
use Rattle.js_source.proofs.numbering.+numbering.Given as goal

abbrev pub decreases-number_node : goal.decreases-number_node
decreases-number_node l = 5 * l.depth

abbrev pub decreases-number_slots : goal.decreases-number_slots
decreases-number_slots l = 5 * l.depth + 4

abbrev pub decreases-number_slot : goal.decreases-number_slot
decreases-number_slot l = 5 * l.depth + 3

abbrev pub decreases-number_places : goal.decreases-number_places
decreases-number_places l = 5 * l.depth + 2

abbrev pub decreases-number_place : goal.decreases-number_place
decreases-number_place l = 5 * l.depth + 1

abbrev pub invariant-number_slots-loop-turn : goal.invariant-number_slots-loop-turn
invariant-number_slots-loop-turn l = record {
  child : l.child ≡ slots_length (slots_of (map slot_view l.slots));
  numbers : slots_of (map slot_view l.slots) ≡ numbered_slots l.parent.number 0 (length l.fn.numbers.spans) (slots_of (map slot_view l.slots));
  nodes : length l.numbers.spans ≡ length l.fn.numbers.spans + slots_count (slots_of (map slot_view l.slots));
  grows : Grows l.fn.numbers.spans l.numbers.spans;
  nested : SlotsNested l.numbers.spans l.parent.span (slots_of (map slot_view l.slots));
  places : l.numbers.places ≡ l.fn.numbers.places + slots_places (slots_of (map slot_view l.slots));
  low : slots_height (slots_of (map slot_view l.slots)) ≤ l.depth;
  shaped : SlotsInShape (slots_of (map slot_view l.slots));
  leaves : SlotsSpelled l.given.spanned.source.now l.numbers.spans (slots_of (map slot_view l.slots));
  len : l.numbers.len ≡ l.fn.numbers.len;
}

abbrev pub invariant-number_places-loop-turn : goal.invariant-number_places-loop-turn
invariant-number_places-loop-turn l = record {
  child : l.child ≡ l.first + places_length (places_of (map place_view l.places));
  numbers : places_of (map place_view l.places) ≡ numbered_places l.parent.number l.first (length l.fn.numbers.spans) (places_of (map place_view l.places));
  nodes : length l.numbers.spans ≡ length l.fn.numbers.spans + places_count (places_of (map place_view l.places));
  grows : Grows l.fn.numbers.spans l.numbers.spans;
  nested : PlacesNested l.numbers.spans l.parent.span (places_of (map place_view l.places));
  places : l.numbers.places ≡ l.fn.numbers.places + all_places (places_of (map place_view l.places));
  low : places_height (places_of (map place_view l.places)) ≤ l.depth;
  shaped : PlacesInShape (places_of (map place_view l.places));
  leaves : PlacesSpelled l.given.spanned.source.now l.numbers.spans (places_of (map place_view l.places));
  len : l.numbers.len ≡ l.fn.numbers.len;
}
