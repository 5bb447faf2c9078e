use Rattle.node_arena.proofs.Stores.{store_made}
use Rattle.node_arena.proofs.arena.Arena.make.Goals as goal

pub invariant_of-self-2 : goal.invariant_of-self-2
invariant_of-self-2 c =
    store_made _ _ _ _ _ _ _ _ _ c.self.invariant c.in-Ok.ensures.ok c.in-Ok.ensures.said c.in-Ok.ensures.spare c.scalar_count.ensures.count c.singles-places.ensures.count
    c.make-node.ensures.after c.make.ensures
