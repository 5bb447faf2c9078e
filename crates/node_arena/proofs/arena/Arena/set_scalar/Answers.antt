use Rattle.node_arena.proofs.Stores.{store_scalar}
use Rattle.node_arena.proofs.arena.Arena.set_scalar.Goals as goal

pub invariant_of-self : goal.invariant_of-self
invariant_of-self c = store_scalar _ _ _ _ _ c.self.invariant c.set_scalar.ensures
