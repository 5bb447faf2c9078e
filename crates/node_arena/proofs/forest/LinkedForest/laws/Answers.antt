use Rattle.node_arena.proofs.Fronts.{lawful_told}
use Rattle.node_arena.proofs.forest.LinkedForest.laws.Goals as goal

pub returns : goal.returns
returns c = lawful_told _ _ c.self.invariant c.self.view_is
