use Rattle.node_arena.proofs.Starts.{start_table_is}
use Rattle.node_arena.proofs.forest.LinkedForest.new.Goals as goal

pub invariant_of-result : goal.invariant_of-result
invariant_of-result c = start_table_is _ c.in_ok-links.ensures
