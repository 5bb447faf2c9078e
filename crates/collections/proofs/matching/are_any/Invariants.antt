use Rattle.std.proofs.Common.{◌≡◌, drop, map}
use Rattle.node_arena.specs.Store.{Store}
use Rattle.collections.specs.Matches.{fit_object, tried}
use Rattle.collections.proofs.matching.are_any.Given as goal

abbrev pub invariant-loop-pattern : goal.invariant-loop-pattern
invariant-loop-pattern l = (A : Store) → fit_object (map tried (drop l.pattern-index l.patterns)) A ≡ fit_object (map tried l.patterns) A
