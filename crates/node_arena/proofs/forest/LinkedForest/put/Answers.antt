use Rattle.node_arena.proofs.Methods.{node_row, put_case, seat_row}
use Rattle.node_arena.proofs.forest.LinkedForest.put.Goals as goal

pub empty-gone-requires-clause-node : goal.empty-gone-requires-clause-node
empty-gone-requires-clause-node g c = node_row _ _ _ c.self.invariant c.self.view_is c.requires.at

pub seat-requires-clause-node : goal.seat-requires-clause-node
seat-requires-clause-node g c = seat_row _ _ _ _ _ c.self.invariant c.self.view_is c.requires.at c.requires.may c.empty-gone.ensures.after

pub invariant_of-self : goal.invariant_of-self
invariant_of-self g c = (put_case _ _ _ _ _ _ c.self.invariant c.self.view_is c.requires.at c.requires.may c.empty-gone.ensures.after c.seat.ensures.after).0

pub returns-clause-after : goal.returns-clause-after
returns-clause-after g c = (put_case _ _ _ _ _ _ c.self.invariant c.self.view_is c.requires.at c.requires.may c.empty-gone.ensures.after c.seat.ensures.after).1
