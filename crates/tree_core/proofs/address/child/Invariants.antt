use Rattle.std.proofs.Common.{◌≡◌, drop, slice_get}
use Rattle.std.specs.Option.{option_flatten}
use Rattle.tree_core.specs.Address.{child_at}
use Rattle.tree_core.specs.View.{syntax}
use Rattle.tree_core.proofs.Children.{below_of}
use Rattle.tree_core.proofs.address.child.Given as goal

abbrev pub invariant-loop-slot : goal.invariant-loop-slot
invariant-loop-slot l = option_flatten (slice_get (below_of (drop l.slot-index l.slot-items)) l.left) ≡ child_at l.number (syntax l.tree)
