-- What a field of a node reads as.
use Rattle.std.specs.Prelude.{ℕ, ◌+◌, ◌-◌, ◌*◌, ◌^◌, ℤ, pos, min, nat_lt, Bool, false, not, List, [], ◌∷◌, length, take, Option, Some, None, slice_get, codes, ◌==◌, ◌&&◌, if◌then◌else◌}
use Rattle.std.specs.Str.{bytes_eq}
use Rattle.tree_core.specs.declared.scalars.Scalar.{Scalar}
use Rattle.tree_core.specs.declared.scalars.Scalar.TheVariants as scalars
use Rattle.type_defs.specs.declared.kind.Kind.{Kind}
use Rattle.type_defs.specs.declared.kind.Kind.TheVariants as k
use Rattle.type_defs.specs.Kinds.{name_of, same_kind}
use Rattle.type_defs.specs.Fields.{Field, fields_of, slots_at, scalar_count, is_list_at}
use Rattle.node_arena.specs.Forest.{Forest, node_at}
use Rattle.node_arena.specs.Reads.{kind_at, first_at}
use Rattle.node_arena.specs.Store.{Store, scalar_at, lead_at, trail_at, inner_at}
use Rattle.collections.specs.declared.field_values.Read.{Read}
use Rattle.collections.specs.declared.field_values.Read.TheVariants as reads

-- what is read; a list by its first place, if it has one, and comments by how many they are
pub data Reading : Type 0 where
  undefined : Reading
  text : List ℕ → Reading
  whole : ℤ → Reading
  truth : Bool → Reading
  null : Reading
  object : Reading
  node : ℕ → Reading
  list : Option ℕ → Reading
  comments : ℕ → Reading

-- what a value of the code stands for
abbrev pub seen : Read → Reading
seen reads.Undefined = undefined
seen (reads.Text t) = text t.now
seen (reads.Named kind) = text (name_of kind)
seen (reads.Whole number) = whole number
seen (reads.Truth b) = truth b
seen reads.Null = null
seen reads.Object = object
seen (reads.Node j) = node j
seen reads.Empty = list None
seen (reads.List p) = list (Some p)
seen (reads.Comments n) = comments n

abbrev pub node_read : Option ℕ → Reading
node_read None = null
node_read (Some j) = node j

-- what stands in a place
abbrev pub place_read : Forest → ℕ → Reading
place_read F p = node_read (node_at F p)

abbrev pub single_read : Forest → Option ℕ → Reading
single_read F None = null
single_read F (Some p) = place_read F p

-- a slot of a node
abbrev pub slot_read : Forest → ℕ → ℕ → Reading
slot_read F j i = if is_list_at (kind_at F j) i then list (first_at F j i) else single_read F (first_at F j i)

abbrev pub value_read : Option Scalar → Reading
value_read None = undefined
value_read (Some (scalars.Text t)) = text t
value_read (Some (scalars.Truth b)) = truth b
value_read (Some scalars.Null) = null

-- a scalar of a node
abbrev pub scalar_read : Store → ℕ → ℕ → Reading
scalar_read A j i = value_read (slice_get A.scalars (scalar_at A j i))

-- the number of the first field of a name, the first of the fields having the number n
abbrev pub named : ℕ → List ℕ → List Field → Option ℕ
named n name [] = None
named n name (f ∷ fs) = if bytes_eq name f.name then Some n else named (n + 1) name fs

abbrev pub slot_named : Forest → ℕ → Option ℕ → Reading
slot_named F j None = undefined
slot_named F j (Some i) = slot_read F j i

abbrev pub scalar_or : Store → ℕ → Option ℕ → Reading → Reading
scalar_or A j None other = other
scalar_or A j (Some i) other = scalar_read A j i

-- a field of the kind: of the scalars, which come first, or of the slots behind them
abbrev pub own_read : Store → ℕ → List ℕ → Kind → Reading
own_read A j name kind = scalar_or A j (named 0 name (take (scalar_count kind) (fields_of kind))) (slot_named A.forest j (named 0 name (slots_at kind)))

abbrev pub is_digit : ℕ → Bool
is_digit u = not (nat_lt u 48) && nat_lt u 58

-- the number that decimal digits spell behind those of the number n
abbrev pub spelled : ℕ → List ℕ → Option ℕ
spelled n [] = Some n
spelled n (u ∷ us) = if is_digit u then spelled (n * 10 + (u - 48)) us else None

-- a whole number up to the greatest safe integer, 2^53 - 1 (ECMA-262, Number.MAX_SAFE_INTEGER)
abbrev pub safe_read : Option ℕ → Reading
safe_read None = undefined
safe_read (Some n) = if nat_lt 9007199254740991 n then undefined else whole (pos n)

-- the number that decimal digits spell, without a leading zero
abbrev pub digits_read : List ℕ → Reading
digits_read [] = undefined
digits_read (u ∷ us) = if (u == 48) && nat_lt 0 (length us) then undefined else safe_read (spelled 0 (u ∷ us))

abbrev pub number_read : Reading → Reading
number_read (text raw) = digits_read raw
number_read _ = undefined

abbrev pub without_last : List ℕ → Reading
without_last [] = undefined
without_last (u ∷ us) = text (take (length us) (u ∷ us))

-- the digits of a BigInt, without its `n`
abbrev pub bigint_read : Reading → Reading
bigint_read (text raw) = without_last raw
bigint_read _ = undefined

abbrev pub is_word : List ℕ → Reading → Bool
is_word word (text t) = bytes_eq t word
is_word word _ = false

-- the scalar 0 of a literal is its sort
abbrev pub is_sort : Store → ℕ → List ℕ → Bool
is_sort A j word = is_word word (scalar_read A j 0)

-- a field of a literal: scalar 1 is its raw text, and some fields are only those of a sort
abbrev pub literal_read : Store → ℕ → List ℕ → Kind → Reading
literal_read A j name kind =
    if is_sort A j (codes "number") && bytes_eq name (codes "value") then number_read (scalar_read A j 1) else
    (if is_sort A j (codes "number") && bytes_eq name (codes "raw") then scalar_read A j 1 else
    (if is_sort A j (codes "bigint") && bytes_eq name (codes "bigint") then bigint_read (scalar_read A j 1) else
    (if is_sort A j (codes "regexp") && bytes_eq name (codes "regex") then object else own_read A j name kind)))

-- an arrow's slot 1 is its body
abbrev pub is_expression : Forest → Reading → Bool
is_expression F (node body) = not (same_kind (kind_at F body) k.BlockStatement)
is_expression F _ = false

abbrev pub counted : ℕ → Reading
counted n = if n == 0 then null else comments n

-- the comments before, after and inside a node, counted up to the greatest `usize`
abbrev pub comments_read : Store → ℕ → Reading
comments_read A j = counted (min (min (length (lead_at A j) + length (trail_at A j)) (2 ^ 64 - 1) + length (inner_at A j)) (2 ^ 64 - 1))

-- a field of a node of a kind
abbrev pub kind_read : Store → ℕ → List ℕ → Kind → Reading
kind_read A j name kind =
    if same_kind kind k.Literal then literal_read A j name kind else
    (if same_kind kind k.ArrowFunctionExpression && bytes_eq name (codes "expression") then truth (is_expression A.forest (slot_read A.forest j 1)) else
    (if same_kind kind k.TemplateElement && bytes_eq name (codes "value") then object else own_read A j name kind))

-- a field of a node
abbrev pub field_read : Store → ℕ → List ℕ → Reading
field_read A j name =
    if bytes_eq name (codes "comments") then comments_read A j else
    (if bytes_eq name (codes "type") then text (name_of (kind_at A.forest j)) else kind_read A j name (kind_at A.forest j))
