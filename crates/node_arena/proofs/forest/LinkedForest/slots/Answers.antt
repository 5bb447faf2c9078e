use Rattle.std.proofs.Common.{◌∙◌, arith}
use Rattle.node_arena.proofs.Fronts.{slots_count, slots_few}
use Rattle.node_arena.proofs.forest.LinkedForest.slots.Goals as goal

pub returns-clause-count : goal.returns-clause-count
returns-clause-count c = c.slots.ensures ∙ slots_count _ _ c.self.invariant c.self.view_is

pub returns-clause-few : goal.returns-clause-few
returns-clause-few c =
    let e = slots_count _ _ c.self.invariant c.self.view_is in
    let f = slots_few _ _ c.self.invariant c.self.view_is in
    let r = c.slots.ensures in
    omega arith
