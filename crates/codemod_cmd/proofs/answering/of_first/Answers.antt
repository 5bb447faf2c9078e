use Rattle.codemod_cmd.proofs.Refusals.{tree_of_bytes}
use Rattle.codemod_cmd.proofs.answering.of_first.Goals as goal

pub renamed-requires-clause-tree : goal.renamed-requires-clause-tree
renamed-requires-clause-tree c = tree_of_bytes _ _ _ _ c.bytes.ensures.value c.requires.tree
