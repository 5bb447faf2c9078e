use Rattle.node_arena.proofs.Told.{node_within}
use Rattle.node_arena.proofs.forest.LinkedForest.node_at.Goals as goal

pub returns-clause-within : goal.returns-clause-within
returns-clause-within c = node_within _ _ _ _ c.self.invariant c.self.view_is c.place.ensures
