-- A text spells a tree: where its nodes stand and what stands between them, from the table of forms.
-- Offsets count bytes. `P` is what is said of each node and the stretch on which it stands.
use Rattle.std.specs.Prelude.{◌≡◌, ◌≤◌, ◌<◌, ℕ, Bool, true, false, List, [], ◌∷◌, ◌++◌, Option, Some, None, length, slice_range, slice_get, slice_index}
use Rattle.tree_core.specs.declared.scalars.Scalar.{Scalar}
use Rattle.tree_core.specs.declared.scalars.Scalar.TheVariants as scalar
use Rattle.tree_core.specs.declared.span.Span.{Span}
use Rattle.tree_core.specs.declared.tree.PlaceName.{PlaceName}
use Rattle.tree_core.specs.Notes.{Notes}
use Rattle.tree_core.specs.Syntax.{Syntax, node}
use Rattle.tree_core.specs.View.{Spot, Row, slots_of, places_of}
use Rattle.first_grammar.specs.declared.table.Kind.{Kind}
use Rattle.first_grammar.specs.declared.table.Word.{Word}
use Rattle.first_grammar.specs.declared.table.Word.TheVariants as w
use Rattle.first_grammar.specs.declared.table.Category.{Category}
use Rattle.first_grammar.specs.declared.table.Category.TheVariants as c
use Rattle.first_grammar.specs.declared.table.Part.{Part}
use Rattle.first_grammar.specs.declared.table.Part.TheVariants as p
use Rattle.first_grammar.specs.Table.{node_kind, fixed, level, belongs, is_whole, form}
use Rattle.first_grammar.specs.Words.{is_blank, is_name_word, Blank, Scan}

abbrev pub Said : Type 1
Said = Syntax → ℕ → ℕ → Type 0

-- no comments
abbrev pub bare_notes : Notes
bare_notes = record { lead = []; trail = []; inner = [] }

-- a node of the kind; its number and its places' names are no part of what is spelled
abbrev pub node_of : Kind → List Scalar → List Row → Option ℕ → Syntax
node_of kind scalars rows from = node (node_kind kind) (fixed kind ++ scalars) (slots_of rows) bare_notes from

-- a slot of one tree
abbrev pub one : Option PlaceName → Syntax → Row
one name x = (false, places_of ((name, Some x) ∷ []))

-- a slot of a list
abbrev pub all : List Spot → Row
all xs = (true, places_of xs)

-- a node begins with its first token, a whole text anywhere
abbrev pub Begins : Bool → List ℕ → ℕ → Type 0
Begins true s i = Unit {0}
Begins false s i = (i < length s) × (is_blank (slice_index s i) ≡ false)

mutual
  -- the bytes from i to j spell the tree at a place of this category and at least this level
  pub data Spells (P : Said) (s : List ℕ) : ℕ → ℕ → Category → ℕ → Syntax → Type 0 where
    formed : (i j : ℕ) (c : Category) (l : ℕ) (x : Syntax) (kind : Kind) → belongs kind c ≡ true → l ≤ level kind → Node P s kind i j x → Spells P s i j c l x

  -- they spell a node of this kind
  pub data Node (P : Said) (s : List ℕ) : Kind → ℕ → ℕ → Syntax → Type 0 where
    built : (kind : Kind) (i j : ℕ) (scalars : List Scalar) (rows : List Row) (from : Option ℕ) → Begins (is_whole kind) s i → Fills P s (form kind) i j scalars rows
        → P (node_of kind scalars rows from) i j → Node P s kind i j (node_of kind scalars rows from)

  -- they spell the parts of a form, with these scalars and slots
  pub data Fills (P : Said) (s : List ℕ) : List Part → ℕ → ℕ → List Scalar → List Row → Type 0 where
    no_parts : (i : ℕ) → Fills P s [] i i [] []
    a_token : (word : Word) (qs : List Part) (i b e j : ℕ) (scalars : List Scalar) (rows : List Row) → Scan s i word b e
        → Fills P s qs e j scalars rows → Fills P s (p.Token word ∷ qs) i j scalars rows
    a_name : (qs : List Part) (i b e j : ℕ) (scalars : List Scalar) (rows : List Row) → Scan s i w.Name b e
        → Fills P s qs e j scalars rows → Fills P s (p.Name ∷ qs) i j (scalar.Text (slice_range s b e) ∷ scalars) rows
    free_name : (word : Word) (qs : List Part) (i b e j : ℕ) (scalars : List Scalar) (rows : List Row) → is_name_word word ≡ true → Scan s i word b e
        → Fills P s qs e j scalars rows → Fills P s (p.AnyName ∷ qs) i j (scalar.Text (slice_range s b e) ∷ scalars) rows
    a_child : (c : Category) (l : ℕ) (qs : List Part) (i b e j : ℕ) (name : Option PlaceName) (x : Syntax) (scalars : List Scalar) (rows : List Row) → Blank s i b → Spells P s b e c l x
        → Fills P s qs e j scalars rows → Fills P s (p.Child c l ∷ qs) i j scalars (one name x ∷ rows)
    empty_list : (c : Category) (l : ℕ) (close : Word) (qs : List Part) (i j : ℕ) (scalars : List Scalar) (rows : List Row)
        → Fills P s qs i j scalars rows → Fills P s (p.List c l close ∷ qs) i j scalars (all [] ∷ rows)
    a_list : (c : Category) (l : ℕ) (close : Word) (qs : List Part) (i e j : ℕ) (xs : List Spot) (scalars : List Scalar) (rows : List Row) → Listed P s c l i e xs
        → Fills P s qs e j scalars rows → Fills P s (p.List c l close ∷ qs) i j scalars (all xs ∷ rows)
    a_body : (c : Category) (close : Word) (qs : List Part) (i e j : ℕ) (xs : List Spot) (scalars : List Scalar) (rows : List Row) → InRow P s c i e xs
        → Fills P s qs e j scalars rows → Fills P s (p.Body c close ∷ qs) i j scalars (all xs ∷ rows)

  -- they spell one or more trees with commas between them
  pub data Listed (P : Said) (s : List ℕ) : Category → ℕ → ℕ → ℕ → List Spot → Type 0 where
    last : (c : Category) (l i b e : ℕ) (name : Option PlaceName) (x : Syntax) → Blank s i b → Spells P s b e c l x → Listed P s c l i e ((name, Some x) ∷ [])
    more : (c : Category) (l i b e b' e' j : ℕ) (name : Option PlaceName) (x : Syntax) (xs : List Spot) → Blank s i b → Spells P s b e c l x → Scan s e w.Comma b' e'
        → Listed P s c l e' j xs → Listed P s c l i j ((name, Some x) ∷ xs)

  -- they spell trees in a row
  pub data InRow (P : Said) (s : List ℕ) : Category → ℕ → ℕ → List Spot → Type 0 where
    row_end : (c : Category) (i : ℕ) → InRow P s c i i []
    row_next : (c : Category) (i b e j : ℕ) (name : Option PlaceName) (x : Syntax) (xs : List Spot) → Blank s i b → Spells P s b e c 1 x
        → InRow P s c e j xs → InRow P s c i j ((name, Some x) ∷ xs)

-- the whole text spells the tree
abbrev pub Whole : Said → List ℕ → Syntax → Type 0
Whole P s t = Spells P s 0 (length s) c.Program 1 t

-- nothing is said
abbrev pub Anything : Said
Anything t i j = Unit {0}

-- the text reads as the tree
abbrev pub Reads : List ℕ → Syntax → Type 0
Reads s t = Whole Anything s t

abbrev pub HasSpan : List Span → Option ℕ → ℕ → ℕ → Type 0
HasSpan spans None i j = ⊥
HasSpan spans (Some n) i j = slice_get spans n ≡ Some (record { start = i; end = j })

-- the node's number has this stretch among the spans
abbrev pub At : List Span → Said
At spans (node kind scalars slots notes from) i j = HasSpan spans from i j
