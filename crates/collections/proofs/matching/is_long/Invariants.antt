use Rattle.std.proofs.Common.{◌≡◌, ◌-◌, Some}
use Rattle.collections.specs.Values.{PlaceIn}
use Rattle.collections.specs.Matches.{has_places}
use Rattle.collections.proofs.matching.is_long.Given as goal

abbrev pub invariant-loop-item : goal.invariant-loop-item
invariant-loop-item l = record {
  within : PlaceIn l.arena.forest l.at;
  long : has_places l.arena.forest (l.count - l._item) l.at ≡ has_places l.arena.forest l.count (Some l.fn.first);
}
