use Rattle.node_arena.proofs.Stores.{store_source}
use Rattle.node_arena.proofs.arena.Arena.set_source.Goals as goal

pub invariant_of-self : goal.invariant_of-self
invariant_of-self c = store_source _ _ _ _ _ c.self.invariant c.set_source.ensures
