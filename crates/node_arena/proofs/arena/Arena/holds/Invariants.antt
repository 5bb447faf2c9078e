use Rattle.std.proofs.Common.{◌≡◌, ◌-◌, ◌<◌, length}
use Rattle.node_arena.specs.Climbs.{climbs}
use Rattle.node_arena.proofs.arena.Arena.holds.Given as goal

abbrev pub invariant-loop-turn : goal.invariant-loop-turn
invariant-loop-turn l = record {
  at : l.at < length l.self.forest.places;
  climbs : climbs (length l.self.forest.nodes - l._turn) l.self.forest l.node l.at ≡ climbs (length l.self.forest.nodes) l.self.forest l.node l.fn.place;
}
