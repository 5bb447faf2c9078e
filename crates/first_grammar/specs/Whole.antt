-- What is answered to a text that reads as a tree.
use Rattle.std.specs.Prelude.{◌≡◌, ◌<◌, Result, Ok, Err}
use Rattle.tree_core.specs.Syntax.{Syntax}
use Rattle.tree_core.specs.Bare.{bare}
use Rattle.tree_core.specs.Height.{height}
use Rattle.first_grammar.specs.declared.error.ReadError.{ReadError}
use Rattle.first_grammar.specs.declared.error.ReadError.TheVariants.{NoMemory, Unexpected, Nesting}
use Rattle.first_grammar.specs.Reading.{max_nesting}

-- the tree, up to numbers and place names, or that it nests too deep, unless memory runs out
abbrev pub Answers : {A : Type 0} → (A → Syntax) → Result A ReadError → Syntax → Type 0
Answers view (Ok a) t = bare (view a) ≡ bare t
Answers view (Err NoMemory) t = Unit {0}
Answers view (Err (Unexpected at)) t = ⊥
Answers view (Err (Nesting at)) t = max_nesting < height t
