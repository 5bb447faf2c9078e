use Rattle.std.proofs.Common.{◌≡◌, ◌++◌, drop}
use Rattle.js_forms.specs.Fixed as spec
use Rattle.js_forms.proofs.fixed.leading.Given as goal

abbrev pub invariant-loop-piece : goal.invariant-loop-piece
invariant-loop-piece l = l.found ++ spec.leading l.form (drop l.piece-index l.pieces) ≡ spec.leading l.form l.pieces
