use Rattle.node_arena.proofs.Methods.{after_case, ends_case, joins_row}
use Rattle.node_arena.proofs.forest.LinkedForest.insert_after.Goals as goal

pub insert-requires-clause-right : goal.insert-requires-clause-right
insert-requires-clause-right g c = (ends_case _ _ _ _ _ c.self.invariant c.self.view_is c.place-row.ensures c.requires.at c.requires.list).1

pub insert-requires-clause-node : goal.insert-requires-clause-node
insert-requires-clause-node g c = joins_row _ _ _ _ c.self.view_is c.requires.joins

pub invariant_of-self : goal.invariant_of-self
invariant_of-self g c = (after_case _ _ _ _ _ _ _ c.self.invariant c.self.view_is c.place-row.ensures c.insert.ensures.after c.requires.at c.requires.list c.requires.joins c.requires.few).0

pub returns-clause-after : goal.returns-clause-after
returns-clause-after g c = (after_case _ _ _ _ _ _ _ c.self.invariant c.self.view_is c.place-row.ensures c.insert.ensures.after c.requires.at c.requires.list c.requires.joins c.requires.few).1
