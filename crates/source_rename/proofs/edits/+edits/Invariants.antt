use Rattle.std.proofs.Common.{◌≡◌, ◌++◌, drop}
use Rattle.tree_core.specs.View.{syntax, slot_view}
use Rattle.source_rename.specs.Edits.{edits, place_edits, in_slot}
use Rattle.source_rename.specs.declared.places.Seat.TheVariants.{Free}
use Rattle.source_rename.proofs.Left.{edits_in_slots, edits_in_places}
use Rattle.source_rename.proofs.edits.+edits.Given as goal

abbrev pub invariant-add_tree-loop-slot : goal.invariant-add_tree-loop-slot
invariant-add_tree-loop-slot l =
    l.found.items ++ edits_in_slots l.search.source.now l.search.spans.now l.search.old.now l.search.word l.below (drop l.slot-index l.slot-items)
    ≡ l.fn.found.items ++ edits l.search.source.now l.search.spans.now l.search.old.now l.search.word l.fn.seat (syntax l.tree)

abbrev pub invariant-add_slot-loop-place : goal.invariant-add_slot-loop-place
invariant-add_slot-loop-place l =
    l.found.items ++ edits_in_places l.search.source.now l.search.spans.now l.search.old.now l.search.word Free (drop l.place-index l.place-items)
    ≡ l.fn.found.items ++ place_edits l.search.source.now l.search.spans.now l.search.old.now l.search.word (in_slot (slot_view l.slot).0 l.fn.seat) (slot_view l.slot).1
