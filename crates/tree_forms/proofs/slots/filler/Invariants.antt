use Rattle.std.proofs.Common.{◌≡◌, drop}
use Rattle.tree_forms.specs.Slots as spec
use Rattle.tree_forms.proofs.slots.filler.Given as goal

abbrev pub invariant-loop-piece : goal.invariant-loop-piece
invariant-loop-piece l = spec.filler l.pieces ≡ spec.filler (drop l.piece-index l.pieces)
