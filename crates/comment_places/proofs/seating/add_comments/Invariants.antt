use Rattle.std.proofs.Common.{◌≡◌, ◌++◌, drop}
use Rattle.comment_places.specs.Seats.{gap_view, seats_at}
use Rattle.comment_places.proofs.seating.add_comments.Given as goal

abbrev pub invariant-loop-comment : goal.invariant-loop-comment
invariant-loop-comment l = l.found ++ seats_at (gap_view l.path l.gap) (drop l.comment-index l.comments) ≡ l.fn.found ++ seats_at (gap_view l.path l.gap) l.comments
