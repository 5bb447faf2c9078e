use Rattle.codemod_cmd.proofs.Refusals.{tree_of_source}
use Rattle.codemod_cmd.proofs.answering.of_source.Goals as goal

pub of_first-requires-clause-tree : goal.of_first-requires-clause-tree
of_first-requires-clause-tree c = tree_of_source _ _ _ _ c.bytes.ensures.value (rw c.in-First.is at c.in_ok-reading.ensures)
