use Rattle.std.proofs.Common.{◌≡◌, ◌++◌, drop}
use Rattle.first_rename.specs.Edits.{Ordered, patched}
use Rattle.first_rename.proofs.patch.patch.Given as goal

abbrev pub invariant-loop-stretch : goal.invariant-loop-stretch
invariant-loop-stretch l = record {
  ordered : Ordered l.source l.at (drop l.stretch-index l.stretches);
  so_far : l.out.items ++ patched l.source l.new l.at (drop l.stretch-index l.stretches) ≡ patched l.source l.new 0 l.stretches;
}
