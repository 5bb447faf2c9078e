use Rattle.std.proofs.Common.{◌≡◌, ◌<◌, ◌-◌, length}
use Rattle.scope_lookup.specs.Climbs.{climb, climb_from}
use Rattle.scope_lookup.proofs.climbing.climb.Given as goal

abbrev pub invariant-loop-turn : goal.invariant-loop-turn
invariant-loop-turn l = record {
  at : l.at < length l.arena.forest.places;
  told : climb (l._turn-end - l._turn) l.arena l.at ≡ climb_from l.arena l.fn.place;
}
