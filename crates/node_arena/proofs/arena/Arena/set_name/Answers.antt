use Rattle.node_arena.proofs.Stores.{store_name}
use Rattle.node_arena.proofs.arena.Arena.set_name.Goals as goal

pub invariant_of-self : goal.invariant_of-self
invariant_of-self c = store_name _ _ _ _ _ c.self.invariant c.set_name.ensures
