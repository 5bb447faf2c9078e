use Rattle.std.proofs.Common.{◌∙◌, sym}
use Rattle.node_arena.proofs.Stores.{store_before}
use Rattle.node_arena.proofs.arena.Arena.insert_before.Goals as goal

pub invariant_of-self-2 : goal.invariant_of-self-2
invariant_of-self-2 g c =
    store_before _ _ _ _ _ _ _ _ _ _ _ c.self.invariant c.in-Ok.ensures.ok c.in-Ok.ensures.said c.in-Ok.ensures.spare (c.number-2.ensures ∙ sym c.number.ensures) c.list_at.ensures c.in-Some.is
    c.insert_before-new.ensures.after c.push_place.ensures
