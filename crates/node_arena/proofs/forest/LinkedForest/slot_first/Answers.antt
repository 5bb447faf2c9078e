use Rattle.node_arena.proofs.Told.{first_own, first_within}
use Rattle.node_arena.proofs.forest.LinkedForest.slot_first.Goals as goal

pub returns-clause-place : goal.returns-clause-place
returns-clause-place c = first_own _ _ _ _ _ _ c.self.invariant c.self.view_is c.node-row.ensures c.slot-found.ensures c.if-found-node.false

pub returns-clause-within : goal.returns-clause-within
returns-clause-within c = first_within _ _ _ _ c.self.invariant c.self.view_is c.slot-found.ensures
