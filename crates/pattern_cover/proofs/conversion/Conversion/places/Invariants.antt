use Rattle.std.proofs.Common.{◌≡◌, ◌++◌, length, map, reverse}
use Rattle.tree_core.specs.View.{place_view}
use Rattle.pattern_cover.specs.Frame.{frame_spot}
use Rattle.pattern_cover.proofs.conversion.Conversion.places.Given as goal

abbrev pub invariant-loop-place : goal.invariant-loop-place
invariant-loop-place g l =
    map frame_spot (map place_view l.done) ++ map frame_spot (map place_view (reverse l.waiting)) ≡ map frame_spot (map place_view l.fn.places)

abbrev pub decreases-loop-place : goal.decreases-loop-place
decreases-loop-place g l = length l.waiting
