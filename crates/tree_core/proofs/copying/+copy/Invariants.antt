use Rattle.std.proofs.Common.{◌≡◌, map, take}
use Rattle.tree_core.specs.View.{slot_view, place_view}
use Rattle.tree_core.proofs.copying.+copy.Given as goal

abbrev pub invariant-copy-loop-slot : goal.invariant-copy-loop-slot
invariant-copy-loop-slot l = map slot_view l.slots ≡ map slot_view (take l.slot-index l.slot-items)

abbrev pub invariant-copy_slot-loop-place : goal.invariant-copy_slot-loop-place
invariant-copy_slot-loop-place l = map place_view l.copied ≡ map place_view (take l.place-index l.place-items)
