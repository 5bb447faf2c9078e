-- The comments of a node.
use Rattle.std.specs.Prelude.{List}
use Rattle.tree_core.specs.declared.comment.Comment.{Comment}

-- the comments before, after and inside a node
pub record Notes : Type 0 where
  pub lead : List Comment
  pub trail : List Comment
  pub inner : List Comment
