use Rattle.node_arena.proofs.Methods.{first_case, head_case, joins_row}
use Rattle.node_arena.proofs.forest.LinkedForest.insert_first.Goals as goal

pub slot-row-requires : goal.slot-row-requires
slot-row-requires g c = (head_case _ _ _ c.self.invariant c.self.view_is c.requires.list).0

pub insert-requires-clause-right : goal.insert-requires-clause-right
insert-requires-clause-right g c = (head_case _ _ _ c.self.invariant c.self.view_is c.requires.list).1 _ c.slot-row.ensures

pub insert-requires-clause-node : goal.insert-requires-clause-node
insert-requires-clause-node g c = joins_row _ _ _ _ c.self.view_is c.requires.joins

pub invariant_of-self : goal.invariant_of-self
invariant_of-self g c = (first_case _ _ _ _ _ _ c.self.invariant c.self.view_is c.slot-row.ensures c.insert.ensures.after c.requires.list c.requires.joins c.requires.few).0

pub returns-clause-after : goal.returns-clause-after
returns-clause-after g c = (first_case _ _ _ _ _ _ c.self.invariant c.self.view_is c.slot-row.ensures c.insert.ensures.after c.requires.list c.requires.joins c.requires.few).1
