use Rattle.node_arena.proofs.Methods.{before_case, ends_case, joins_row}
use Rattle.node_arena.proofs.forest.LinkedForest.insert_before.Goals as goal

pub insert-requires-clause-left : goal.insert-requires-clause-left
insert-requires-clause-left g c = (ends_case _ _ _ _ _ c.self.invariant c.self.view_is c.place-row.ensures c.requires.at c.requires.list).0

pub insert-requires-clause-node : goal.insert-requires-clause-node
insert-requires-clause-node g c = joins_row _ _ _ _ c.self.view_is c.requires.joins

pub invariant_of-self : goal.invariant_of-self
invariant_of-self g c = (before_case _ _ _ _ _ _ _ c.self.invariant c.self.view_is c.place-row.ensures c.insert.ensures.after c.requires.at c.requires.list c.requires.joins c.requires.few).0

pub returns-clause-after : goal.returns-clause-after
returns-clause-after g c = (before_case _ _ _ _ _ _ _ c.self.invariant c.self.view_is c.place-row.ensures c.insert.ensures.after c.requires.at c.requires.list c.requires.joins c.requires.few).1
