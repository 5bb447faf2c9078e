use Rattle.std.proofs.Common.{arith}
use Rattle.node_arena.proofs.Copying.{store_copied_on}
use Rattle.node_arena.proofs.arena.Arena.copy_row.Goals as goal

pub invariant_of-self-2 : goal.invariant_of-self-2
invariant_of-self-2 c =
    store_copied_on _ _ _ _ _ _ _ _ _ _ _ c.self.invariant c.self.view_is c.requires.at c.number.ensures c.number-2.ensures (omega arith) c.kind-kind.ensures c.scalar_count.ensures.count c.singles-places.ensures.count
    c.in-Ok.ensures.ok c.make-copy.ensures.after
