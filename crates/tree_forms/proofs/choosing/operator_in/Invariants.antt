use Rattle.std.proofs.Common.{◌≡◌, drop, slice_get}
use Rattle.tree_forms.specs.Choice.{operator_in}
use Rattle.tree_forms.proofs.choosing.operator_in.Given as goal

abbrev pub invariant-loop-row : goal.invariant-loop-row
invariant-loop-row l = operator_in (drop l.row-index l.row-items) l.role (slice_get l.scalars 0) ≡ operator_in l.row-items l.role (slice_get l.scalars 0)
