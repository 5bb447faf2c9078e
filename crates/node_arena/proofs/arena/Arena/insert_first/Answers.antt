use Rattle.node_arena.proofs.Stores.{store_first}
use Rattle.node_arena.proofs.arena.Arena.insert_first.Goals as goal

pub invariant_of-self-2 : goal.invariant_of-self-2
invariant_of-self-2 g c =
    store_first _ _ _ _ _ _ _ _ c.self.invariant c.in-Ok.ensures.ok c.in-Ok.ensures.said c.in-Ok.ensures.spare c.insert_first-new.ensures.after c.push_place.ensures
