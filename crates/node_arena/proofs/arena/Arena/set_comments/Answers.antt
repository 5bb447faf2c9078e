use Rattle.node_arena.proofs.Stores.{store_comments}
use Rattle.node_arena.proofs.arena.Arena.set_comments.Goals as goal

pub invariant_of-self : goal.invariant_of-self
invariant_of-self c = store_comments _ _ _ _ _ _ _ c.self.invariant c.set_comments.ensures
