use Rattle.std.proofs.Common.{◌≡◌, ◌++◌, drop}
use Rattle.tree_core.specs.View.{syntax, slot_view}
use Rattle.first_rename.specs.Edits.{edits, place_edits}
use Rattle.first_rename.proofs.Left.{edits_in_slots, edits_in_places}
use Rattle.first_rename.proofs.patch.+edits.Given as goal

abbrev pub invariant-add_tree-loop-slot : goal.invariant-add_tree-loop-slot
invariant-add_tree-loop-slot l = l.found.items ++ edits_in_slots l.name l.spans (drop l.slot-index l.slot-items) ≡ l.fn.found.items ++ edits l.name l.spans (syntax l.tree)

abbrev pub invariant-add_slot-loop-place : goal.invariant-add_slot-loop-place
invariant-add_slot-loop-place l = l.found.items ++ edits_in_places l.name l.spans (drop l.place-index l.place-items) ≡ l.fn.found.items ++ place_edits l.name l.spans (slot_view l.slot).1
