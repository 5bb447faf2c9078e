use Rattle.std.proofs.Common.{◌≡◌, ◌<◌, ◌-◌, length}
use Rattle.collections.specs.Above.{nearest, nearest_in}
use Rattle.collections.specs.Matches.{fits_type}
use Rattle.collections.proofs.ancestors.nearest.Given as goal

abbrev pub invariant-loop-turn : goal.invariant-loop-turn
invariant-loop-turn l = record {
  within : l.at < length l.arena.forest.places;
  found : nearest_in (length l.arena.forest.nodes - l._turn) l.arena.forest (fits_type l.arena l.pattern l.of) l.at ≡ nearest l.arena.forest (fits_type l.arena l.pattern l.of) l.fn.path;
}
