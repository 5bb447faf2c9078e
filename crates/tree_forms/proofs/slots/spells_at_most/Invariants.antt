use Rattle.std.proofs.Common.{◌≡◌, drop}
use Rattle.tree_forms.specs.Slots as spec
use Rattle.tree_forms.proofs.slots.spells_at_most.Given as goal

abbrev pub invariant-loop-piece : goal.invariant-loop-piece
invariant-loop-piece l = spec.spells_at_most l.single l.form l.pieces l.most ≡ spec.spells_at_most l.single l.form (drop l.piece-index l.pieces) l.left
