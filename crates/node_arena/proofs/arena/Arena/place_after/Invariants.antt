use Rattle.std.proofs.Common.{◌<◌, length}
use Rattle.node_arena.proofs.arena.Arena.place_after.Given as goal

abbrev pub invariant-loop-turn : goal.invariant-loop-turn
invariant-loop-turn l = l.at < length l.self.forest.places
