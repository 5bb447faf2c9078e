use Rattle.first_grammar.proofs.Walked.{slots_next, slots_named, places_next, places_named}
use Rattle.first_grammar.proofs.number.+numbering.Goals as goal

pub number_places-loop-place-preserved : goal.number_places-loop-place-preserved
number_places-loop-place-preserved t c =
    places_next c.args.spans.now c.args.node c.args.child c.args.places c.args.numbered.now c.loop-place.waiting c.pop.new.self c.loop-place.done c.push.new.self c.in-Some.place c.in_ok-place.place c.loop-place.child c.in_ok-child.child
    c.loop-place.numbered c.number_place.new.numbered c.loop-place.invariant c.in-Some.ensures c.in_ok-place.ensures.place c.in_ok-child.ensures c.in_ok-place.ensures.spans c.in_ok-push.ensures.ok

pub number_places-returns-clause-places : goal.number_places-returns-clause-places
number_places-returns-clause-places t c =
    places_named c.args.spans.now c.args.node c.args.child c.args.places c.args.numbered.now c.loop-place.waiting c.loop-place.done c.loop-place.child c.loop-place.numbered c.loop-place.invariant c.in_default.ensures.0

pub number_slots-loop-slot-preserved : goal.number_slots-loop-slot-preserved
number_slots-loop-slot-preserved t c =
    slots_next c.args.spans.now c.args.node c.args.slots c.args.numbered.now c.loop-slot.waiting c.pop.new.self c.loop-slot.done c.push.new.self c.in-Some.slot c.in_ok-slot.slot c.loop-slot.child c.in_ok-slot.next c.loop-slot.numbered
    c.number_slot.new.numbered c.loop-slot.invariant c.in-Some.ensures c.in_ok-slot.ensures.slot c.in_ok-slot.ensures.child c.in_ok-slot.ensures.spans c.in_ok-push.ensures.ok

pub number_slots-returns-clause-slots : goal.number_slots-returns-clause-slots
number_slots-returns-clause-slots t c =
    slots_named c.args.spans.now c.args.node c.args.slots c.args.numbered.now c.loop-slot.waiting c.loop-slot.done c.loop-slot.child c.loop-slot.numbered c.loop-slot.invariant c.in_default.ensures.0
