use Rattle.node_arena.proofs.Fronts.{made_apart}
use Rattle.node_arena.proofs.Methods.{make_case}
use Rattle.node_arena.proofs.forest.LinkedForest.make.Goals as goal

pub invariant_of-self : goal.invariant_of-self
invariant_of-self c = (make_case _ _ _ _ c.self.invariant c.self.view_is c.requires.nodes c.requires.places c.make.ensures.after).0

pub returns-clause-after : goal.returns-clause-after
returns-clause-after c = (make_case _ _ _ _ c.self.invariant c.self.view_is c.requires.nodes c.requires.places c.make.ensures.after).1

pub returns-clause-apart : goal.returns-clause-apart
returns-clause-apart c =
    let made = make_case _ _ _ _ c.self.invariant c.self.view_is c.requires.nodes c.requires.places c.make.ensures.after in
    made_apart _ _ _ _ _ _ c.self.invariant c.self.view_is made.0 made.1 c.make.ensures.number
