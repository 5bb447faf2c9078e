use Rattle.std.proofs.Common.{◌≡◌, drop}
use Rattle.tree_forms.specs.Slots as spec
use Rattle.tree_forms.proofs.slots.has_mirror.Given as goal

abbrev pub invariant-loop-piece : goal.invariant-loop-piece
invariant-loop-piece l = spec.has_mirror l.form l.pieces l.number ≡ spec.has_mirror l.form (drop l.piece-index l.pieces) l.left
