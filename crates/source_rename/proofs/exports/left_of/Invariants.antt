use Rattle.std.proofs.Common.{◌≡◌, drop}
use Rattle.source_rename.specs.Exports.{left_of}
use Rattle.source_rename.proofs.exports.left_of.Given as goal

abbrev pub invariant-loop-number : goal.invariant-loop-number
invariant-loop-number l = left_of l.start (drop l.number l.ends) ≡ left_of l.start l.ends
