use Rattle.std.proofs.Common.{◌≡◌, ◌+◌, drop, map}
use Rattle.comment_places.specs.Children.{kid_view, character_count}
use Rattle.comment_places.proofs.children.character_count.Given as goal

abbrev pub invariant-loop-at : goal.invariant-loop-at
invariant-loop-at l = character_count (map kid_view (drop l.at l.children)) + l.at ≡ character_count (map kid_view l.children)
