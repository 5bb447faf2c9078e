-- When a tree is that of the source.
use Rattle.std.specs.Prelude.{◌≡◌}
use Rattle.tree_core.specs.Bare.{bare}
use Rattle.tree_core.specs.View.{syntax}
use Rattle.tree_core.specs.declared.span.Parsed.{Parsed}
use Rattle.tree_core.specs.declared.tree.Tree.{Tree}

-- the tree comes from the source's root, and has its nodes and comments
pub record IsSourceTree (parsed : Parsed) (tree : Tree) : Type 0 where
  pub from : tree.from ≡ parsed.tree.from
  pub nodes : bare (syntax tree) ≡ bare (syntax parsed.tree)
