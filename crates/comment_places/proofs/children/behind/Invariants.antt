use Rattle.std.proofs.Common.{◌≡◌, drop}
use Rattle.tree_core.specs.View.{slot_view}
use Rattle.comment_places.specs.Children.{behind}
use Rattle.comment_places.proofs.Kids.{behind_places}
use Rattle.comment_places.proofs.children.behind.Given as goal

abbrev pub invariant-loop-place : goal.invariant-loop-place
invariant-loop-place l = behind_places l.here (drop l._place-index l._place-items) ≡ behind l.number (slot_view l.slot).1
