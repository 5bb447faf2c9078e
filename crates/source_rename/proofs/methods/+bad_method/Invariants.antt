use Rattle.std.proofs.Common.{◌≡◌, drop}
use Rattle.tree_core.specs.View.{syntax, slot_view}
use Rattle.source_rename.specs.Methods.{bad_method, bad_places}
use Rattle.source_rename.proofs.Left.{bad_in_slots, bad_in_places}
use Rattle.source_rename.proofs.methods.+bad_method.Given as goal

abbrev pub invariant-bad_method-loop-slot : goal.invariant-bad_method-loop-slot
invariant-bad_method-loop-slot l = bad_in_slots l.names.old.now l.names.new.now l.number (drop l.slot-index l.slot-items) ≡ bad_method l.names.old.now l.names.new.now (syntax l.tree)

abbrev pub invariant-bad_in_slot-loop-place : goal.invariant-bad_in_slot-loop-place
invariant-bad_in_slot-loop-place l = bad_in_places l.names.old.now l.names.new.now l.here (drop l.place-index l.place-items) ≡ bad_places l.names.old.now l.names.new.now l.number (slot_view l.slot).1
