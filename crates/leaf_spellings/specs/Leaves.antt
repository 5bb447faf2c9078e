-- Nodes without slots that a text spells at a stretch. Their comments and numbers are left aside.
use Rattle.std.specs.Prelude.{◌≡◌, ◌<◌, ℕ, true, List, [], ◌∷◌, ◌++◌, None, slice_range}
use Rattle.std.specs.List.{Contains}
use Rattle.tree_core.specs.declared.scalars.Scalar.{Scalar}
use Rattle.tree_core.specs.declared.scalars.Scalar.TheVariants as scalar
use Rattle.tree_core.specs.declared.span.Span.{Span}
use Rattle.tree_core.specs.Syntax.{Syntax, node, no_slots, slot}
use Rattle.type_defs.specs.declared.kind.Kind.{Kind}
use Rattle.type_defs.specs.declared.kind.Kind.TheVariants as k
use Rattle.js_tokens.specs.Texts.{code_units}
use Rattle.js_lexer.specs.Scan.{gap_at}
use Rattle.js_forms.specs.Fixed.{scalars}
use Rattle.js_forms.specs.Contexts.{outermost}
use Rattle.js_forms.specs.Table.{kind_of, spellings}
use Rattle.js_forms.specs.declared.form.Form.{Form}
use Rattle.js_forms.specs.declared.piece.Piece.{Piece}
use Rattle.js_forms.specs.declared.piece.Spelling.{Spelling}
use Rattle.spelling_rules.specs.Spells.{Anything, Fills}

-- the bytes from i to j spell a node of the kind, with these scalars and no slots
pub data Leaf (s : List ℕ) : ℕ → ℕ → Kind → List Scalar → Type 0 where
  -- a token begins at i, and the pieces of a form fill the stretch (ECMA-262, clauses 12 to 14)
  formed : (i j : ℕ) (form : Form) (spelling : Spelling) (pieces : List Piece) (more : List Scalar) (most : ℕ) → i < j → (gap_at s i).end ≡ i
      → Contains (spellings form) (spelling, pieces) → Fills Anything s form outermost 0 pieces i j more [] None most
      → Leaf s i j (kind_of form) (scalars form ++ more)
  -- they are characters of a template, without its marks (clause 12.9.6)
  characters : (i j : ℕ) → Leaf s i j k.TemplateElement (scalar.Text (code_units true (slice_range s i j)) ∷ [])

-- if the node has no slots, the stretch spells it
abbrev pub LeafSpelled : List ℕ → Span → Syntax → Type 0
LeafSpelled s span (node kind found no_slots notes from) = Leaf s span.start span.end kind found
LeafSpelled s span (node kind found (slot list first more) notes from) = Unit {0}
