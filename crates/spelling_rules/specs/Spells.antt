-- A text spells a tree: where its nodes stand and what stands between them, by the pieces of each
-- form. Offsets count bytes. `P` is what is said of each node and the span on which it stands.
-- Comments are left aside.
use Rattle.std.specs.Prelude.{◌≡◌, ◌+◌, ◌-◌, ℕ, Bool, true, false, not, ◌&&◌, ◌||◌, List, [], ◌∷◌, ◌++◌, Option, Some, None, length, slice_range, slice_get, Ok}
use Rattle.std.specs.List.{Contains}
use Rattle.tree_core.specs.declared.scalars.Scalar.{Scalar}
use Rattle.tree_core.specs.declared.scalars.Scalar.TheVariants as scalar
use Rattle.tree_core.specs.declared.span.Span.{Span}
use Rattle.tree_core.specs.declared.tree.PlaceName.{PlaceName}
use Rattle.tree_core.specs.Notes.{Notes}
use Rattle.tree_core.specs.Syntax.{Syntax, node}
use Rattle.tree_core.specs.View.{Spot, Row, slots_of, places_of}
use Rattle.js_tokens.specs.Texts.{code_units}
use Rattle.js_tokens.specs.declared.punctuator.Punctuator.TheVariants as mark
use Rattle.js_tokens.specs.declared.token.Goal.{Goal}
use Rattle.js_tokens.specs.declared.token.Goal.TheVariants.{Div, TemplateTail}
use Rattle.js_tokens.specs.declared.token.Token.{Token}
use Rattle.js_lexer.specs.Cursors.{is_mark}
use Rattle.js_lexer.specs.Scan.{gap_at, scan}
use Rattle.asi_rules.specs.Semicolons.{closes, would_join}
use Rattle.asi_rules.specs.declared.rules.Ending.{Ending}
use Rattle.js_forms.specs.Contexts.{outermost, free, with_directives, within}
use Rattle.js_forms.specs.Fixed.{scalars}
use Rattle.js_forms.specs.Forms.{flow_of}
use Rattle.js_forms.specs.Own.{told}
use Rattle.js_forms.specs.Table.{kind_of, spellings, first_row, second_row}
use Rattle.js_forms.specs.declared.category.Category.TheVariants as c
use Rattle.js_forms.specs.declared.context.Context.{Context}
use Rattle.js_forms.specs.declared.context.Scope.TheVariants as s
use Rattle.js_forms.specs.declared.form.Form.{Form}
use Rattle.js_forms.specs.declared.form.Form.TheVariants as f
use Rattle.js_forms.specs.declared.levels.TheConstants.{PRIMARY}
use Rattle.js_forms.specs.declared.piece.Blank.{Blank}
use Rattle.js_forms.specs.declared.piece.Choice.{Choice}
use Rattle.js_forms.specs.declared.piece.Fixed.{Fixed}
use Rattle.js_forms.specs.declared.piece.Lexeme.{Lexeme}
use Rattle.js_forms.specs.declared.piece.Own.{Own}
use Rattle.js_forms.specs.declared.piece.Piece.{Piece}
use Rattle.js_forms.specs.declared.piece.Piece.TheVariants as p
use Rattle.js_forms.specs.declared.piece.Place.{Place}
use Rattle.js_forms.specs.declared.piece.Spelling.{Spelling}
use Rattle.js_forms.specs.declared.piece.Spelling.TheVariants as spelling
use Rattle.js_forms.specs.declared.piece.Test.{Test}
use Rattle.spelling_rules.specs.Tokens.{goal_of, texts, passes, is_part, cooks}
use Rattle.spelling_rules.specs.Shapes.{Shape, takes, ends, shape_of, in_parentheses, stands, lawful, is_rest, is_directive}

abbrev pub Said : Type 1
Said = Syntax → ℕ → ℕ → Type 0

-- a node of the form; its comments, its number and its places' names are no part of what is spelled
abbrev pub node_of : Form → List Scalar → List Row → Notes → Option ℕ → Syntax
node_of form more rows notes from = node (kind_of form) (scalars form ++ more) (slots_of rows) notes from

-- a slot of one tree, and one of none
abbrev pub one : Option PlaceName → Syntax → Row
one name x = (false, places_of ((name, Some x) ∷ []))

abbrev pub none : Option PlaceName → Row
none name = (false, places_of ((name, None) ∷ []))

-- a slot of a list
abbrev pub all : List Spot → Row
all xs = (true, places_of xs)

-- the two slots of one name
abbrev pub twin_rows : Bool → Row → Row → List Row → List Row
twin_rows true mirror spelled rows = mirror ∷ spelled ∷ rows
twin_rows false mirror spelled rows = spelled ∷ mirror ∷ rows

-- the mirror is the name that the tree is, or that a default is for
pub data Mirrors : Syntax → Syntax → Type 0 where
  of_name : (name : List Scalar) (one two : Notes) (from other : Option ℕ) → Mirrors (node_of f.AnyName name [] one from) (node_of f.AnyName name [] two other)
  of_default : (name : List Scalar) (place : Option PlaceName) (rows : List Row) (one_notes two three : Notes) (from other whole : Option ℕ)
      → Mirrors (node_of f.AnyName name [] one_notes from) (node_of f.Default [] (one place (node_of f.AnyName name [] two other) ∷ rows) three whole)

-- a `;` may be missing before the token, at these ends; the least of them decides nothing
abbrev pub may_miss : Ending → Bool → ℕ → Token → Bool
may_miss ending clause most t =
    let joins = would_join (record { least = most; most = most; clause = clause; word = ending }) t.kind in
    not (is_mark t.kind mark.Semicolon) && (closes t.kind || (t.broken_before && not joins))

-- behind this item of a row
abbrev pub behind : Shape → Context → Context
behind x k = with_directives (k.directives && is_directive x.form) k

-- the surroundings of the place in a form
abbrev pub there : Form → Place → Context → Context
there form place k = within place.scope (flow_of form) k

-- an expression alone, as in parentheses or between the characters of a template
abbrev pub alone : Place
alone = record { category = c.Expression; least = 0; scope = s.Free }

-- the characters of a part of a template, between its marks; the mark behind them has this length
abbrev pub characters : List ℕ → Token → ℕ → List ℕ
characters s t behind = slice_range s (t.start + 1) (t.end - behind)

abbrev pub element : List ℕ → Notes → Option ℕ → Syntax
element raw notes from = node_of f.TemplateElement (scalar.Text (code_units true raw) ∷ []) [] notes from

mutual
  -- behind blanks from i on, the bytes up to j spell the tree in this shape at a place of the form that
  -- takes it, in these surroundings
  pub data Spells (P : Said) (s : List ℕ) : Form → Context → ℕ → ℕ → Place → Shape → Syntax → Type 0 where
    fits : (f : Form) (k : Context) (i j : ℕ) (place : Place) (shape : Shape) (x : Syntax) → Shaped P s k (gap_at s i).end j shape x → takes f place k shape x ≡ true → Spells P s f k i j place shape x

  -- the bytes from i to j spell the tree in this shape
  pub data Shaped (P : Said) (s : List ℕ) : Context → ℕ → ℕ → Shape → Syntax → Type 0 where
    formed : (k : Context) (i j : ℕ) (f : Form) (spelling : Spelling) (pieces : List Piece) (more : List Scalar) (rows : List Row) (notes : Notes) (from : Option ℕ) (own : Option Shape) (most : ℕ)
        → Contains (spellings f) (spelling, pieces) → stands f k ≡ true → Fills P s f k 0 pieces i j more rows own most → lawful f rows ≡ true
        → P (node_of f more rows notes from) i j → Shaped P s k i j (shape_of f spelling own most) (node_of f more rows notes from)
    grouped : (f : Form) (k : Context) (i e j : ℕ) (opener closer : Token) (shape : Shape) (x : Syntax) → scan s i Div ≡ Ok opener → is_mark opener.kind mark.OpenParen ≡ true
        → Spells P s f (free k) opener.end e alone shape x → scan s e Div ≡ Ok closer → is_mark closer.kind mark.CloseParen ≡ true → Shaped P s k i closer.end (in_parentheses shape) x

  -- they spell the pieces of the form, behind ends of this greatest level, with these scalars behind
  -- those that the form determines, these slots, the shape of the first child, and the greatest level
  -- of the ends before j
  pub data Fills (P : Said) (s : List ℕ) : Form → Context → ℕ → List Piece → ℕ → ℕ → List Scalar → List Row → Option Shape → ℕ → Type 0 where
    no_pieces : (f : Form) (k : Context) (m i : ℕ) → Fills P s f k m [] i i [] [] None m
    a_nothing : (f : Form) (k : Context) (m n i j : ℕ) (qs : List Piece) (more : List Scalar) (rows : List Row) (own : Option Shape)
        → Fills P s f k m qs i j more rows own n → Fills P s f k m (p.Nothing ∷ qs) i j more rows own n
    -- a scalar that the form determines
    a_scalar : (f : Form) (k : Context) (m n i j : ℕ) (qs : List Piece) (more : List Scalar) (rows : List Row) (own : Option Shape) (fixed : Fixed)
        → Fills P s f k m qs i j more rows own n → Fills P s f k m (p.Scalar fixed ∷ qs) i j more rows own n
    -- blanks of made text
    a_blank : (f : Form) (k : Context) (m n i j : ℕ) (qs : List Piece) (more : List Scalar) (rows : List Row) (own : Option Shape) (blank : Blank)
        → Fills P s f k m qs i j more rows own n → Fills P s f k m (p.Blank blank ∷ qs) i j more rows own n
    -- the interpreter is told elsewhere
    an_interpreter : (f : Form) (k : Context) (m n i j : ℕ) (qs : List Piece) (value : Scalar) (more : List Scalar) (rows : List Row) (own : Option Shape)
        → Fills P s f k m qs i j more rows own n → Fills P s f k m (p.Interpreter ∷ qs) i j (value ∷ more) rows own n
    a_token : (f : Form) (k : Context) (m n i j : ℕ) (qs : List Piece) (more : List Scalar) (rows : List Row) (own : Option Shape) (test : Test) (t : Token) → scan s i Div ≡ Ok t → passes test s t ≡ true
        → Fills P s f k 0 qs t.end j more rows own n → Fills P s f k m (p.Token test ∷ qs) i j more rows own n
    looked_ahead : (f : Form) (k : Context) (m n i j : ℕ) (qs : List Piece) (more : List Scalar) (rows : List Row) (own : Option Shape) (test : Test) (t : Token) → scan s i Div ≡ Ok t → passes test s t ≡ true
        → Fills P s f k m qs i j more rows own n → Fills P s f k m (p.Ahead test ∷ qs) i j more rows own n
    a_text : (f : Form) (k : Context) (m n i j : ℕ) (qs : List Piece) (more : List Scalar) (rows : List Row) (own : Option Shape) (lexeme : Lexeme) (t : Token) (found : List Scalar) → scan s i (goal_of lexeme) ≡ Ok t
        → texts lexeme s t ≡ Some found → Fills P s f k PRIMARY qs t.end j more rows own n → Fills P s f k m (p.Text lexeme ∷ qs) i j (found ++ more) rows own n
    a_child : (f : Form) (k : Context) (m n i e j : ℕ) (qs : List Piece) (more : List Scalar) (rows : List Row) (own : Option Shape) (place : Place) (name : Option PlaceName) (shape : Shape) (x : Syntax)
        → Spells P s f (there f place k) i e place shape x → Fills P s f k (ends place shape) qs e j more rows own n → Fills P s f k m (p.Child place ∷ qs) i j more (one name x ∷ rows) own n
    a_first : (f : Form) (k : Context) (m n i e j : ℕ) (qs : List Piece) (more : List Scalar) (rows : List Row) (place : Place) (name : Option PlaceName) (shape : Shape) (x : Syntax)
        → Spells P s f (there f place k) i e place shape x → Fills P s f k (ends place shape) qs e j more rows None n → Fills P s f k m (p.First place ∷ qs) i j more (one name x ∷ rows) (Some shape) n
    a_hole : (f : Form) (k : Context) (m n i j : ℕ) (qs : List Piece) (more : List Scalar) (rows : List Row) (own : Option Shape) (name : Option PlaceName)
        → Fills P s f k m qs i j more rows own n → Fills P s f k m (p.Hole ∷ qs) i j more (none name ∷ rows) own n
    an_item : (f : Form) (k : Context) (m n i e j : ℕ) (qs : List Piece) (more : List Scalar) (xs : List Spot) (rows : List Row) (own : Option Shape) (place : Place) (name : Option PlaceName) (shape : Shape) (x : Syntax)
        → Spells P s f (there f place k) i e place shape x → Fills P s f k (ends place shape) qs e j more (all xs ∷ rows) own n → Fills P s f k m (p.Into place ∷ qs) i j more (all ((name, Some x) ∷ xs) ∷ rows) own n
    no_items : (f : Form) (k : Context) (m n i j : ℕ) (qs : List Piece) (more : List Scalar) (rows : List Row) (own : Option Shape) (place : Option Place)
        → Fills P s f k m qs i j more rows own n → Fills P s f k m (p.NoList place ∷ qs) i j more (all [] ∷ rows) own n
    a_row : (f : Form) (k : Context) (m n i e j : ℕ) (qs : List Piece) (more : List Scalar) (xs : List Spot) (rows : List Row) (own : Option Shape) (place : Place) (semicolons : Bool)
        → InRow P s f (there f place k) semicolons place i e xs → Fills P s f k 0 qs e j more rows own n → Fills P s f k m (p.Row place semicolons ∷ qs) i j more (all xs ∷ rows) own n
    with_commas : (f : Form) (k : Context) (m l n i e j : ℕ) (qs : List Piece) (more : List Scalar) (xs : List Spot) (rows : List Row) (own : Option Shape) (place : Place) (holes last : Bool)
        → Listed P s f (there f place k) holes last place i e xs l → Fills P s f k l qs e j more rows own n → Fills P s f k m (p.Commas place holes last ∷ qs) i j more (all xs ∷ rows) own n
    a_twin : (f : Form) (k : Context) (m n i e j : ℕ) (qs : List Piece) (more : List Scalar) (rows : List Row) (own : Option Shape) (before : Bool) (place : Place) (name other : Option PlaceName) (shape : Shape) (mirror x : Syntax)
        → Spells P s f (there f place k) i e place shape x → Mirrors mirror x → Fills P s f k 0 qs e j more rows own n → Fills P s f k m (p.Twins before place ∷ qs) i j more (twin_rows before (one name mirror) (one other x) rows) own n
    -- the end of a statement: a `;`, or none where that may be missing
    a_semicolon : (f : Form) (k : Context) (m n i j : ℕ) (qs : List Piece) (more : List Scalar) (rows : List Row) (own : Option Shape) (ending : Ending) (clause : Bool) (t : Token) → scan s i Div ≡ Ok t
        → is_mark t.kind mark.Semicolon ≡ true → Fills P s f k 0 qs t.end j more rows own n → Fills P s f k m (p.End ending clause ∷ qs) i j more rows own n
    is_missing : (f : Form) (k : Context) (m n i j : ℕ) (qs : List Piece) (more : List Scalar) (rows : List Row) (own : Option Shape) (ending : Ending) (clause : Bool) (t : Token) → scan s i Div ≡ Ok t
        → may_miss ending clause m t ≡ true → Fills P s f k m qs i j more rows own n → Fills P s f k m (p.End ending clause ∷ qs) i j more rows own n
    a_template : (f : Form) (k : Context) (m n i e j : ℕ) (qs : List Piece) (more : List Scalar) (rows : List Row) (own : Option Shape) (cooked : Bool) (quasis holes : List Spot) → Quasis P s f k cooked Div i e quasis holes
        → Fills P s f k 0 qs e j more rows own n → Fills P s f k m (p.Template cooked ∷ qs) i j more (all quasis ∷ all holes ∷ rows) own n
    the_first : (f : Form) (k : Context) (m n i j : ℕ) (qs : List Piece) (more : List Scalar) (rows : List Row) (own : Option Shape) (choice : Choice)
        → Fills P s f k m (first_row choice ++ qs) i j more rows own n → Fills P s f k m (p.Choice choice ∷ qs) i j more rows own n
    the_second : (f : Form) (k : Context) (m n i j : ℕ) (qs : List Piece) (more : List Scalar) (rows : List Row) (own : Option Shape) (choice : Choice)
        → Fills P s f k m (second_row choice ++ qs) i j more rows own n → Fills P s f k m (p.Choice choice ∷ qs) i j more rows own n
    -- what the fields of the form tell
    an_own : (f : Form) (k : Context) (m n i j : ℕ) (qs : List Piece) (more : List Scalar) (rows : List Row) (first : Option Shape) (own : Own)
        → Fills P s f k m (told f own ∷ qs) i j more rows first n → Fills P s f k m (p.Own own ∷ qs) i j more rows first n

  -- they spell trees in a row, perhaps with semicolons between them; behind the first that is no
  -- directive there is none
  pub data InRow (P : Said) (s : List ℕ) : Form → Context → Bool → Place → ℕ → ℕ → List Spot → Type 0 where
    row_end : (f : Form) (k : Context) (semicolons : Bool) (place : Place) (i : ℕ) → InRow P s f k semicolons place i i []
    row_next : (f : Form) (k : Context) (semicolons : Bool) (place : Place) (i e j : ℕ) (name : Option PlaceName) (shape : Shape) (x : Syntax) (xs : List Spot)
        → Spells P s f k i e place shape x → InRow P s f (behind shape k) semicolons place e j xs → InRow P s f k semicolons place i j ((name, Some x) ∷ xs)
    row_semicolon : (f : Form) (k : Context) (place : Place) (i j : ℕ) (t : Token) (xs : List Spot) → scan s i Div ≡ Ok t → is_mark t.kind mark.Semicolon ≡ true
        → InRow P s f k true place t.end j xs → InRow P s f k true place i j xs

  -- they spell trees with commas between them, the last of which ends at this greatest level: perhaps
  -- with empty places, perhaps with a comma or nothing at the end, but none behind a rest
  pub data Listed (P : Said) (s : List ℕ) : Form → Context → Bool → Bool → Place → ℕ → ℕ → List Spot → ℕ → Type 0 where
    list_end : (f : Form) (k : Context) (holes : Bool) (place : Place) (i : ℕ) → Listed P s f k holes true place i i [] 0
    list_last : (f : Form) (k : Context) (holes last : Bool) (place : Place) (i j : ℕ) (name : Option PlaceName) (shape : Shape) (x : Syntax)
        → Spells P s f k i j place shape x → Listed P s f k holes last place i j ((name, Some x) ∷ []) (ends place shape)
    list_more : (f : Form) (k : Context) (holes last : Bool) (place : Place) (i e j l : ℕ) (name : Option PlaceName) (shape : Shape) (x : Syntax) (t : Token) (xs : List Spot) → Spells P s f k i e place shape x
        → is_rest shape.form ≡ false → scan s e Div ≡ Ok t → is_mark t.kind mark.Comma ≡ true → Listed P s f k holes last place t.end j xs l → Listed P s f k holes last place i j ((name, Some x) ∷ xs) l
    list_hole : (f : Form) (k : Context) (last : Bool) (place : Place) (i j l : ℕ) (name : Option PlaceName) (t : Token) (xs : List Spot) → scan s i Div ≡ Ok t → is_mark t.kind mark.Comma ≡ true
        → Listed P s f k true last place t.end j xs l → Listed P s f k true last place i j ((name, None) ∷ xs) l

  -- they spell the characters of a template and the expressions between them, in turn
  pub data Quasis (P : Said) (s : List ℕ) : Form → Context → Bool → Goal → ℕ → ℕ → List Spot → List Spot → Type 0 where
    last_quasi : (f : Form) (k : Context) (cooked : Bool) (goal : Goal) (i : ℕ) (name : Option PlaceName) (t : Token) (notes : Notes) (from : Option ℕ) → scan s i goal ≡ Ok t → is_part goal true t.kind ≡ true
        → (not cooked || cooks (characters s t 1)) ≡ true → P (element (characters s t 1) notes from) (t.start + 1) (t.end - 1)
        → Quasis P s f k cooked goal i t.end ((name, Some (element (characters s t 1) notes from)) ∷ []) []
    more_quasis : (f : Form) (k : Context) (cooked : Bool) (goal : Goal) (i e j : ℕ) (name other : Option PlaceName) (t : Token) (notes : Notes) (from : Option ℕ) (shape : Shape) (x : Syntax) (quasis holes : List Spot)
        → scan s i goal ≡ Ok t → is_part goal false t.kind ≡ true → (not cooked || cooks (characters s t 2)) ≡ true → P (element (characters s t 2) notes from) (t.start + 1) (t.end - 2)
        → Spells P s f (free k) t.end e alone shape x → Quasis P s f k cooked TemplateTail e j quasis holes
        → Quasis P s f k cooked goal i j ((name, Some (element (characters s t 2) notes from)) ∷ quasis) ((other, Some x) ∷ holes)

-- the scalars of the node
abbrev pub scalars_of : Syntax → List Scalar
scalars_of (node kind found slots notes from) = found

-- from i on, behind a first line `#!`, the text spells the program, whose interpreter is what that line
-- tells; of the program itself the whole text is said
pub data Whole (P : Said) (s : List ℕ) (i : ℕ) (interpreter : Scalar) : Syntax → Type 0 where
  whole : (pieces : List Piece) (rows : List Row) (notes : Notes) (from : Option ℕ) (most : ℕ)
      → Contains (spellings f.Program) (spelling.Usual, pieces) → Fills P s f.Program outermost 0 pieces i (length s) (interpreter ∷ []) rows None most
      → P (node_of f.Program (interpreter ∷ []) rows notes from) 0 (length s) → Whole P s i interpreter (node_of f.Program (interpreter ∷ []) rows notes from)

-- nothing is said
abbrev pub Anything : Said
Anything x i j = Unit {0}

-- the text from the offset on reads as the tree
abbrev pub Reads : List ℕ → ℕ → Scalar → Syntax → Type 0
Reads s i interpreter x = Whole Anything s i interpreter x

abbrev pub HasSpan : List Span → Option ℕ → ℕ → ℕ → Type 0
HasSpan spans None i j = ⊥
HasSpan spans (Some n) i j = slice_get spans n ≡ Some (record { start = i; end = j })

-- the node's number has this span among the spans
abbrev pub At : List Span → Said
At spans (node kind found slots notes from) i j = HasSpan spans from i j
