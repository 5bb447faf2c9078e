use Rattle.std.proofs.Common.{◌≡◌, ◌++◌, drop}
use Rattle.source_rename.specs.Exports.{ended}
use Rattle.source_rename.proofs.exports.with_ends.Given as goal

abbrev pub invariant-loop-edit : goal.invariant-loop-edit
invariant-loop-edit l = l.all.items ++ ended l.left (drop l.edit-index l.edits) ≡ ended l.ends l.edits
