use Rattle.std.proofs.Common.{◌≡◌, ◌<◌, All, length}
use Rattle.collections.specs.Found.{found_below}
use Rattle.collections.proofs.finding.below_paths.Given as goal

abbrev pub invariant-loop-path : goal.invariant-loop-path
invariant-loop-path l = record {
  same : l.kept.items ≡ l.seen.keys;
  found : l.kept.items ≡ found_below l.arena.forest l.of l.yielded;
  within : All (λ p. p < length l.arena.forest.places) l.kept.items;
}
