use Rattle.std.proofs.Common.{map, rules}
use Rattle.tree_core.specs.View.{place_view}
use Rattle.pattern_cover.proofs.Frames.{same_spots}
use Rattle.pattern_cover.proofs.conversion.Conversion.places.Goals as goal

pub returns-clause-list : goal.returns-clause-list
returns-clause-list g c = same_spots (map place_view c.loop-place.done) (map place_view c.args.places) (search rules)
