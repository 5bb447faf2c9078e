use Rattle.std.proofs.Common.{◌≡◌}
use Rattle.std.specs.Prelude.{nat_eq}
use Rattle.indexmap.specs.IndexSet.{insert_all}
use Rattle.collections.proofs.distinct.add_all.Given as goal

abbrev pub invariant-loop-place : goal.invariant-loop-place
invariant-loop-place l = record {
  same : l.kept.items ≡ l.seen.keys;
  added : l.kept.items ≡ insert_all nat_eq l.fn.kept.items l.yielded;
}
