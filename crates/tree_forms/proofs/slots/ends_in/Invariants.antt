use Rattle.std.proofs.Common.{◌≡◌, drop}
use Rattle.tree_forms.specs.Slots as spec
use Rattle.tree_forms.proofs.slots.ends_in.Given as goal

abbrev pub invariant-loop-at : goal.invariant-loop-at
invariant-loop-at l = spec.ends_in l.form l.pieces l.number ≡ spec.ends_in l.form (drop l.at l.pieces) l.left
