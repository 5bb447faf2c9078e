use Rattle.node_arena.proofs.Told.{prev_within}
use Rattle.node_arena.proofs.forest.LinkedForest.prev.Goals as goal

pub returns-in-Some-clause-within : goal.returns-in-Some-clause-within
returns-in-Some-clause-within c = prev_within _ _ _ _ _ c.self.invariant c.self.view_is c.place-row.ensures c.in-Some.is
