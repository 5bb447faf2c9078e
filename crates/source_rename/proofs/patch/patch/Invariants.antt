use Rattle.std.proofs.Common.{◌≡◌, ◌≤◌, ◌++◌, drop, length}
use Rattle.source_rename.specs.Edits.{patched}
use Rattle.source_rename.proofs.patch.patch.Given as goal

abbrev pub invariant-loop-edit : goal.invariant-loop-edit
invariant-loop-edit l = record {
  within : l.at ≤ length l.source;
  so_far : l.out.items ++ patched l.source l.new l.at (drop l.edit-index l.edits) ≡ patched l.source l.new 0 l.edits;
}
