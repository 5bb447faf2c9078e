use Rattle.std.proofs.Common.{◌≡◌, ◌<◌, All, filter, length}
use Rattle.collections.specs.declared.pattern.Pattern.TheVariants.{Any}
use Rattle.collections.specs.Found.{Picks}
use Rattle.collections.specs.Matches.{fits_place}
use Rattle.collections.proofs.finding.kept.Given as goal

abbrev pub invariant-loop-path : goal.invariant-loop-path
invariant-loop-path l = record {
  within : All (λ p. p < length l.arena.forest.places) l.kept;
  picks : Picks l.kept l.yielded;
  kept : l.kept ≡ filter (fits_place l.arena l.pattern) l.yielded;
  any : l.pattern ≡ Any → l.kept ≡ l.yielded;
}
