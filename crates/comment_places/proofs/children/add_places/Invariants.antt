use Rattle.std.proofs.Common.{◌≡◌, ◌++◌, drop, map}
use Rattle.comment_places.specs.Children.{kid_view}
use Rattle.comment_places.proofs.Kids.{kids_in_places}
use Rattle.comment_places.proofs.children.add_places.Given as goal

abbrev pub invariant-loop-place : goal.invariant-loop-place
invariant-loop-place l = map kid_view l.found.items ++ kids_in_places l.slot_number l.category l.here (drop l.place-index l.places) ≡ map kid_view l.fn.found.items ++ kids_in_places l.slot_number l.category l.number l.places
