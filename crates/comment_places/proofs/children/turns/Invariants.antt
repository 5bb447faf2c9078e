use Rattle.std.proofs.Common.{◌≡◌, ◌++◌, drop, map}
use Rattle.comment_places.specs.Children.{kid_view, turns}
use Rattle.comment_places.proofs.children.turns.Given as goal

abbrev pub invariant-loop-at : goal.invariant-loop-at
invariant-loop-at l = map kid_view l.found.items ++ turns (map kid_view (drop l.at l.characters)) (map kid_view (drop l.at l.holes)) ≡ turns (map kid_view l.characters) (map kid_view l.holes)
