use Rattle.collections.specs.Walks.{WalksIn}
use Rattle.forest_speed.proofs.count_places.Given as goal

abbrev pub invariant-loop-turn : goal.invariant-loop-turn
invariant-loop-turn l = WalksIn l.arena.forest l.walk
