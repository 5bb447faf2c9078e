use Rattle.std.proofs.Common.{◌≡◌, ◌≤◌, ◌+◌, ◌-◌, ◌*◌, ◌++◌, drop, length, map}
use Rattle.comment_places.specs.Children.{kid_view}
use Rattle.comment_places.specs.Seats.{seats_in, of_kids, end_of, gap_view, sides_view}
use Rattle.comment_places.proofs.seating.+seats.Given as goal

abbrev pub decreases-add_child : goal.decreases-add_child
decreases-add_child l = l.depth * 2 + 1

abbrev pub decreases-add_tree : goal.decreases-add_tree
decreases-add_tree l = l.depth * 2

abbrev pub invariant-add_tree-loop-at : goal.invariant-add_tree-loop-at
invariant-add_tree-loop-at l = record {
  kept : l.path.items ≡ l.fn.path.items;
  within : l.end.depth ≤ length l.path.items;
  told : l.found ++ of_kids (seats_in (l.depth - 1)) l.variant l.path.items (sides_view l.path.items l.sides) l.gap (map kid_view (drop l.at l.children.items)) ≡ l.fn.found ++ of_kids (seats_in (l.depth - 1)) l.variant l.path.items (sides_view l.path.items l.sides) 0 (map kid_view l.children.items);
  last : end_of l.variant l.path.items (sides_view l.path.items l.sides) (gap_view l.path.items l.end) l.gap (map kid_view (drop l.at l.children.items)) ≡ end_of l.variant l.path.items (sides_view l.path.items l.sides) (record { steps = l.path.items; gap = 0 }) 0 (map kid_view l.children.items);
}
