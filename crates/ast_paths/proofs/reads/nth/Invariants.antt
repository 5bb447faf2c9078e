use Rattle.std.proofs.Common.{◌≡◌, ◌<◌, length, IfSome}
use Rattle.ast_paths.proofs.reads.nth.Given as goal
use Rattle.ast_paths.specs.Paths.{nth_from}

abbrev pub invariant-loop-turn : goal.invariant-loop-turn
invariant-loop-turn l = record {
  place : l.at ≡ nth_from l.arena.forest l.fn.first l._turn;
  within : IfSome l.at (λ p. p < length l.arena.forest.places);
}
