use Rattle.std.proofs.Common.{◌≡◌, drop}
use Rattle.tree_forms.specs.Reading as spec
use Rattle.tree_forms.proofs.fronts.begins.Given as goal

abbrev pub invariant-loop-at : goal.invariant-loop-at
invariant-loop-at l = spec.begins l.form l.pieces 0 l.found ≡ spec.begins l.form (drop l.at l.pieces) l.at l.found
