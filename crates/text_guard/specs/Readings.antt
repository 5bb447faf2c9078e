-- What is read from a text, and when a text reads back as a tree.
use Rattle.std.specs.Prelude.{◌≡◌, ◌≤◌, ◌⊎◌, ℕ, List, length}
use Rattle.comment_places.specs.Seats.{seats}
use Rattle.js_lexer.specs.Cursors.{SpansFit}
use Rattle.js_source.specs.Leaves.{LeavesSpelled}
use Rattle.js_source.specs.Nested.{Nested, whole}
use Rattle.js_source.specs.Shaped.{InShape}
use Rattle.text_guard.specs.Plain.{plain}
use Rattle.tree_core.specs.Bare.{bare}
use Rattle.tree_core.specs.Height.{height}
use Rattle.tree_core.specs.Numbers.{count, numbered}
use Rattle.tree_core.specs.Syntax.{Syntax}
use Rattle.tree_core.specs.View.{syntax}
use Rattle.tree_core.specs.declared.span.Parsed.{Parsed}

-- the most nodes around a node, itself counted
abbrev pub max_nesting : ℕ
max_nesting = 1000

-- what the reader of the whole language makes of the text: a tree in shape, numbered in preorder, each
-- node within the node around it, and each leaf spelled where it stands
pub record IsParsed (s : List ℕ) (p : Parsed) : Type 0 where
  pub nesting : height (syntax p.tree) ≤ max_nesting
  pub counted : length p.spans ≡ count (syntax p.tree)
  pub within : SpansFit (length s) p.spans
  pub preorder : syntax p.tree ≡ numbered 0 (syntax p.tree)
  pub nested : Nested p.spans (whole (length s)) (syntax p.tree)
  pub shaped : InShape (syntax p.tree)
  pub leaves : LeavesSpelled s p.spans (syntax p.tree)

-- the trees have the same comments in the same order at the same places: each node has the same ones
-- before, behind and inside it, or, where they are shared out otherwise, their places are the same
abbrev pub SameComments : Syntax → Syntax → Type 0
SameComments a b = (bare a ≡ bare b) ⊎ (seats a ≡ seats b)

-- the text is read as the tree: the same nodes, and the same comments
pub record ReadsBack (s : List ℕ) (tree : Syntax) : Type 0 where
  pub parsed : Parsed
  pub read : IsParsed s parsed
  pub nodes : plain (syntax parsed.tree) ≡ plain tree
  pub comments : SameComments (syntax parsed.tree) tree
