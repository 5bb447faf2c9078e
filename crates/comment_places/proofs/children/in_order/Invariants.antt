use Rattle.std.proofs.Common.{◌≡◌, ◌++◌, drop, map}
use Rattle.comment_places.specs.Children.{kid_view}
use Rattle.comment_places.proofs.Kids.{kids_in_slots}
use Rattle.comment_places.proofs.children.in_order.Given as goal

abbrev pub invariant-loop-at : goal.invariant-loop-at
invariant-loop-at l = map kid_view l.found.items ++ kids_in_slots l.variant l.at l.number (drop l.at l.slots) ≡ kids_in_slots l.variant 0 0 l.slots
