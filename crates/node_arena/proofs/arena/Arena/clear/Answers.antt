use Rattle.node_arena.proofs.Stores.{store_clear}
use Rattle.node_arena.proofs.arena.Arena.clear.Goals as goal

pub invariant_of-self : goal.invariant_of-self
invariant_of-self g c = store_clear _ _ _ _ c.self.invariant c.clear.ensures.after
