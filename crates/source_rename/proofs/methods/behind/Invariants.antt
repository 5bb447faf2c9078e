use Rattle.std.proofs.Common.{◌≡◌, drop}
use Rattle.tree_core.specs.View.{slot_view}
use Rattle.source_rename.specs.Methods.{behind}
use Rattle.source_rename.proofs.Left.{behind_places}
use Rattle.source_rename.proofs.methods.behind.Given as goal

abbrev pub invariant-loop-place : goal.invariant-loop-place
invariant-loop-place l = behind_places l.here (drop l._place-index l._place-items) ≡ behind l.number (slot_view l.slot).1
