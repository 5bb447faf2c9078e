use Rattle.std.proofs.Common.{◌≡◌, drop}
use Rattle.std.specs.List.{list_all}
use Rattle.tree_forms.specs.Slots as spec
use Rattle.tree_forms.proofs.slots.are_quiet.Given as goal

abbrev pub invariant-loop-piece : goal.invariant-loop-piece
invariant-loop-piece l = list_all spec.is_quiet l.pieces ≡ list_all spec.is_quiet (drop l.piece-index l.pieces)
