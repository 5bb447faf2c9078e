use Rattle.std.proofs.Common.{arith}
use Rattle.node_arena.proofs.Told.{list_slot_is}
use Rattle.node_arena.proofs.forest.LinkedForest.list_slot.Goals as goal

pub overflow_add-result : goal.overflow_add-result
overflow_add-result c = let told = list_slot_is _ _ _ _ _ c.self.invariant c.self.view_is c.node.ensures c.requires.list in let fits = told.0 in omega arith

pub returns-clause-list : goal.returns-clause-list
returns-clause-list c = (list_slot_is _ _ _ _ _ c.self.invariant c.self.view_is c.node.ensures c.requires.list).1
