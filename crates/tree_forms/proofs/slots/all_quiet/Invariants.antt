use Rattle.std.proofs.Common.{◌≡◌, drop}
use Rattle.tree_forms.specs.Slots as spec
use Rattle.tree_forms.proofs.slots.all_quiet.Given as goal

abbrev pub invariant-loop-piece : goal.invariant-loop-piece
invariant-loop-piece l = spec.all_quiet l.form l.pieces ≡ spec.all_quiet l.form (drop l.piece-index l.pieces)
