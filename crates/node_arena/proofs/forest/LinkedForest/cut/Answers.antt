use Rattle.node_arena.proofs.Fronts.{cut_case}
use Rattle.node_arena.proofs.forest.LinkedForest.cut.Goals as goal

pub invariant_of-self : goal.invariant_of-self
invariant_of-self c = (cut_case _ _ _ _ _ _ _ c.self.invariant c.self.view_is c.requires.lawful c.requires.few c.cut.ensures).0

pub returns-clause-after : goal.returns-clause-after
returns-clause-after c = (cut_case _ _ _ _ _ _ _ c.self.invariant c.self.view_is c.requires.lawful c.requires.few c.cut.ensures).1
