use Rattle.std.proofs.Common.{◌≡◌, ◌<◌, All, length}
use Rattle.collections.specs.Above.{nearest_all}
use Rattle.collections.specs.Matches.{fits_type}
use Rattle.collections.proofs.ancestors.nearest_paths.Given as goal

abbrev pub invariant-loop-path : goal.invariant-loop-path
invariant-loop-path l = record {
  same : l.kept.items ≡ l.seen.keys;
  found : l.kept.items ≡ nearest_all l.arena.forest (fits_type l.arena l.pattern l.of) l.yielded;
  within : All (λ p. p < length l.arena.forest.places) l.kept.items;
}
