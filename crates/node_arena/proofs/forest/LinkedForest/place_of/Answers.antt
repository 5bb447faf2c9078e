use Rattle.node_arena.proofs.Told.{place_within}
use Rattle.node_arena.proofs.forest.LinkedForest.place_of.Goals as goal

pub returns-clause-within : goal.returns-clause-within
returns-clause-within c = place_within _ _ _ _ c.self.invariant c.self.view_is c.node.ensures
