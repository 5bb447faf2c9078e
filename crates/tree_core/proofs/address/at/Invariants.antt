use Rattle.std.proofs.Common.{◌≡◌, drop}
use Rattle.tree_core.specs.Address.{node_at}
use Rattle.tree_core.specs.View.{syntax}
use Rattle.tree_core.proofs.address.at.Given as goal

abbrev pub invariant-loop-step : goal.invariant-loop-step
invariant-loop-step l = node_at (drop l.step-index l.step-items) (syntax l.node) ≡ node_at l.address (syntax l.tree)
