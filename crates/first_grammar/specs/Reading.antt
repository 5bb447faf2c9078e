-- How trees are read: the table of forms is interpreted, and what goes on from a first child is climbed
-- by levels. Each function of the reader has its function on inputs here, in the same order.
use Rattle.std.specs.Prelude.{ℕ, zero, suc, Bool, ◌&&◌, if◌then◌else◌, nat_le, List, [], ◌∷◌, ◌++◌, Option, Some, None, Ok}
use Rattle.tree_core.specs.declared.scalars.Scalar.{Scalar}
use Rattle.tree_core.specs.declared.scalars.Scalar.TheVariants as scalar
use Rattle.tree_core.specs.Height.{slots_height}
use Rattle.tree_core.specs.Syntax.{Syntax}
use Rattle.tree_core.specs.View.{Spot, Row, slots_of}
use Rattle.first_grammar.specs.declared.table.Kind.{Kind}
use Rattle.first_grammar.specs.declared.table.Word.{Word}
use Rattle.first_grammar.specs.declared.table.Word.TheVariants as w
use Rattle.first_grammar.specs.declared.table.Category.{Category}
use Rattle.first_grammar.specs.declared.table.Category.TheVariants as c
use Rattle.first_grammar.specs.declared.table.Part.{Part}
use Rattle.first_grammar.specs.declared.table.Part.TheVariants as p
use Rattle.first_grammar.specs.Table.{level, belongs, left, tail, led_by, begun_by}
use Rattle.first_grammar.specs.Spells.{node_of, one, all}
use Rattle.first_grammar.specs.Input.{Reader, Outcome, word, opening, settled, start_of, turns, ◌>>=◌, ◌>>◌, pure, refuse, too_deep, advance, eat, expect, name, any_name, numbered, sees}

-- what is read of a form so far: scalars and slots
abbrev pub Read : Type 0
Read = List Scalar × List Row

abbrev pub made : Kind → Read → ℕ → Syntax
made kind r from = node_of kind r.0 r.1 (Some from)

-- a tree, and its kind
abbrev pub Kinded : Type 0
Kinded = Syntax × Kind

abbrev pub with_scalar : Read → List ℕ → Read
with_scalar r units = (r.0 ++ scalar.Text units ∷ [], r.1)

abbrev pub with_row : Read → Row → Read
with_row r row = (r.0, r.1 ++ row ∷ [])

-- a place whose name is not yet given
abbrev pub unnamed : Syntax → Spot
unnamed x = (None, Some x)

-- whether a tree of kind `first` may be the first child of this kind, at a place of this category and level
abbrev pub takes : Category → ℕ → Kind → Kind → Bool
takes category least first kind = belongs kind category && nat_le least (level kind) && belongs first (left kind).0 && nat_le (left kind).1 (level first)

abbrev pub if_takes : Category → ℕ → Kind → Option Kind → Option Kind
if_takes category least first None = None
if_takes category least first (Some kind) = if takes category least first kind then Some kind else None

-- the kind that goes on with this token from a tree of kind `first`
unfoldable pub choose : Category → ℕ → Kind → Word → Option Kind
choose category least first word = if_takes category least first (led_by word)

abbrev pub onward : {A : Type 0} → Outcome A → Option Kind → (Kind → Outcome A) → Outcome A
onward stop None go = stop
onward stop (Some kind) go = go kind

module _ (node : Category → ℕ → Reader Syntax) where
  -- one or more, with commas between them
  unfoldable pub listed_from : Category → ℕ → ℕ → List Spot → Reader (List Spot)
  listed_from category least zero found = refuse
  listed_from category least (suc n) found = do
    x ← node category least
    more ← eat w.Comma
    if more then listed_from category least n (found ++ unnamed x ∷ []) else pure (found ++ unnamed x ∷ [])

  unfoldable pub listed : Category → ℕ → Word → Reader (List Spot)
  listed category least close i = if sees close i then Ok ([], i) else listed_from category least (turns i) [] i

  -- any number of them, up to this token
  unfoldable pub in_row_from : Category → Word → ℕ → List Spot → Reader (List Spot)
  in_row_from category close zero found = pure found
  in_row_from category close (suc n) found = λ i. if sees close i then Ok (found, i) else (do
    x ← node category 1
    in_row_from category close n (found ++ unnamed x ∷ [])) i

  unfoldable pub in_row : Category → Word → Reader (List Spot)
  in_row category close i = in_row_from category close (turns i) [] i

  unfoldable pub part : Part → Read → Reader Read
  part (p.Token word) r = expect word >> pure r
  part p.Name r = do
    units ← name
    pure (with_scalar r units)
  part p.AnyName r = do
    units ← any_name
    pure (with_scalar r units)
  part (p.Child category least) r = do
    x ← node category least
    pure (with_row r (one None x))
  part (p.List category least close) r = do
    xs ← listed category least close
    pure (with_row r (all xs))
  part (p.Body category close) r = do
    xs ← in_row category close
    pure (with_row r (all xs))

  abbrev pub parts : List Part → Read → Reader Read
  parts [] r = pure r
  parts (q ∷ qs) r = part q r >>= parts qs

-- refused where deeper trees nest in what is read of a form
abbrev pub shallow : ℕ → Read → Reader (Unit {0})
shallow depth r = if nat_le (slots_height (slots_of r.1)) depth then pure tt else too_deep

module _ (depth : ℕ) (node : Category → ℕ → Reader Syntax) where
  -- a node that begins at the offset, of which this much is read; in it trees nest no deeper than the number
  unfoldable pub filled : Kind → ℕ → Read → Reader Syntax
  filled kind start r = do
    whole ← parts node (tail kind) r
    shallow depth whole
    from ← numbered start
    pure (made kind whole from)

  abbrev pub begun : Option Kind → Category → ℕ → Reader Kinded
  begun None category least = refuse
  begun (Some kind) category least =
      λ i. if belongs kind category && nat_le least (level kind) then (do x ← filled kind (start_of kind i.at (opening i)) ([], []); pure (x, kind)) (settled kind i) else refuse i

  -- a tree whose form begins with a token
  unfoldable pub first : Category → ℕ → Reader Kinded
  first category least i = begun (begun_by category (word i)) category least i

  unfoldable pub climb : Category → ℕ → ℕ → ℕ → Syntax → Kind → Reader Syntax
  climb category least start zero x kind i = Ok (x, i)
  climb category least start (suc n) x kind i = onward (Ok (x, i)) (choose category least kind (word i)) (λ longer. (do
    advance
    y ← filled longer start ([], one None x ∷ [])
    climb category least start n y longer) i)

  -- a tree that may go on from the first
  unfoldable pub climbed : Category → ℕ → ℕ → Kinded → Reader Syntax
  climbed category least start x i = climb category least start (turns i) x.0 x.1 i

  unfoldable pub whole : Category → ℕ → Reader Syntax
  whole category least = λ i. (do
    x ← first category least
    climbed category least (start_of x.1 i.at (opening i)) x) i

-- a tree at a place of this category and level, with trees nested no deeper than the number
unfoldable pub node : ℕ → Category → ℕ → Reader Syntax
node zero category least = too_deep
node (suc depth) category least = whole depth (node depth) category least

abbrev pub max_nesting : ℕ
max_nesting = 1000

unfoldable pub program : Reader Syntax
program = node max_nesting c.Program 1
