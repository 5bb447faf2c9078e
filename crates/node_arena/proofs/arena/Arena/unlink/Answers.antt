use Rattle.node_arena.proofs.Stores.{store_unlink}
use Rattle.node_arena.proofs.arena.Arena.unlink.Goals as goal

pub invariant_of-self : goal.invariant_of-self
invariant_of-self g c = store_unlink _ _ _ _ c.self.invariant c.unlink.ensures.after
