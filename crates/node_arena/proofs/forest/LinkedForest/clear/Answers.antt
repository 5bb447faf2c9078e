use Rattle.std.proofs.Common.{◌∙◌}
use Rattle.node_arena.proofs.Methods.{clear_case, node_row, node_told}
use Rattle.node_arena.proofs.forest.LinkedForest.clear.Goals as goal

pub empty-requires-clause-node : goal.empty-requires-clause-node
empty-requires-clause-node g c = node_row _ _ _ c.self.invariant c.self.view_is c.requires.at

pub invariant_of-self : goal.invariant_of-self
invariant_of-self g c = (clear_case _ _ _ _ c.self.invariant c.self.view_is c.requires.at c.empty.ensures.after).0

pub returns-clause-node : goal.returns-clause-node
returns-clause-node g c = c.empty.ensures.node ∙ node_told _ _ _ c.self.view_is c.requires.at

pub returns-clause-after : goal.returns-clause-after
returns-clause-after g c = (clear_case _ _ _ _ c.self.invariant c.self.view_is c.requires.at c.empty.ensures.after).1
