use Rattle.node_arena.proofs.Stores.{store_put}
use Rattle.node_arena.proofs.arena.Arena.put.Goals as goal

pub invariant_of-self : goal.invariant_of-self
invariant_of-self g c = store_put _ _ _ _ _ c.self.invariant c.put.ensures.after
