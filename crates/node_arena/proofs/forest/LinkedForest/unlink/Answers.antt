use Rattle.std.proofs.Common.{◌∙◌}
use Rattle.node_arena.proofs.Methods.{node_row, node_told, unlink_at, unlink_case, unlink_ends}
use Rattle.node_arena.proofs.forest.LinkedForest.unlink.Goals as goal

pub empty-gone-requires-clause-node : goal.empty-gone-requires-clause-node
empty-gone-requires-clause-node g c = node_row _ _ _ c.self.invariant c.self.view_is c.requires.at

pub detach-requires-clause-at : goal.detach-requires-clause-at
detach-requires-clause-at g c = unlink_at _ _ _ _ _ c.self.invariant c.self.view_is c.requires.at c.requires.list c.empty-gone.ensures.after

pub detach-requires-clause-ends : goal.detach-requires-clause-ends
detach-requires-clause-ends g c = unlink_ends _ _ _ _ _ c.self.invariant c.self.view_is c.requires.at c.requires.list c.empty-gone.ensures.after

pub invariant_of-self : goal.invariant_of-self
invariant_of-self g c = (unlink_case _ _ _ _ _ _ c.self.invariant c.self.view_is c.requires.at c.requires.list c.empty-gone.ensures.after c.detach.ensures.after).0

pub returns-clause-node : goal.returns-clause-node
returns-clause-node g c = c.empty-gone.ensures.node ∙ node_told _ _ _ c.self.view_is c.requires.at

pub returns-clause-after : goal.returns-clause-after
returns-clause-after g c = (unlink_case _ _ _ _ _ _ c.self.invariant c.self.view_is c.requires.at c.requires.list c.empty-gone.ensures.after c.detach.ensures.after).1
