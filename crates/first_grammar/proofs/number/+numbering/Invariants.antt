use Rattle.std.proofs.Common.{◌+◌, ◌*◌, length}
use Rattle.tree_core.specs.View.{syntax, slot_view, place_view}
use Rattle.first_grammar.specs.Numbers.{count, slots_count, places_count, spot_count}
use Rattle.first_grammar.proofs.Walked.{all_slots, all_places, SlotsWalked, PlacesWalked}
use Rattle.first_grammar.proofs.number.+numbering.Given as goal

abbrev pub decreases-number_node : goal.decreases-number_node
decreases-number_node l = 5 * count (syntax l.tree.value)

abbrev pub decreases-number_slots : goal.decreases-number_slots
decreases-number_slots l = 5 * slots_count (all_slots l.slots) + 4

abbrev pub decreases-number_slot : goal.decreases-number_slot
decreases-number_slot l = 5 * places_count (slot_view l.slot).1 + 3

abbrev pub decreases-number_places : goal.decreases-number_places
decreases-number_places l = 5 * places_count (all_places l.places) + 2

abbrev pub decreases-number_place : goal.decreases-number_place
decreases-number_place l = 5 * spot_count (place_view l.place) + 1

abbrev pub invariant-number_places-loop-place : goal.invariant-number_places-loop-place
invariant-number_places-loop-place l = PlacesWalked l.spans l.node l.fn.child l.fn.places l.fn.numbered l.waiting l.done l.child l.numbered

abbrev pub decreases-number_places-loop-place : goal.decreases-number_places-loop-place
decreases-number_places-loop-place l = length l.waiting

abbrev pub invariant-number_slots-loop-slot : goal.invariant-number_slots-loop-slot
invariant-number_slots-loop-slot l = SlotsWalked l.spans l.node l.fn.slots l.fn.numbered l.waiting l.done l.child l.numbered

abbrev pub decreases-number_slots-loop-slot : goal.decreases-number_slots-loop-slot
decreases-number_slots-loop-slot l = length l.waiting
