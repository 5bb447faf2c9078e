-- What a pattern fits, and how many nodes are visited to tell.
use Rattle.std.specs.Prelude.{ℕ, zero, suc, ◌+◌, ◌-◌, ℤ, Bool, true, false, not, List, [], ◌∷◌, length, Option, Some, None, nat_lt, ◌&&◌, if◌then◌else◌}
use Rattle.std.specs.Str.{bytes_eq}
use Rattle.std.specs.Ordering.{int_eq}
use Rattle.type_defs.specs.declared.groups.NodeType.{NodeType}
use Rattle.node_arena.specs.Forest.{Forest, node_at}
use Rattle.node_arena.specs.Reads.{next_at}
use Rattle.node_arena.specs.Store.{Store}
use Rattle.collections.specs.declared.pattern.Pattern.{Pattern, fold-Pattern}
use Rattle.collections.specs.declared.pattern.Pattern.TheOpen.{Pattern-F}
use Rattle.collections.specs.declared.pattern.FieldPattern.{FieldPattern, FieldPattern-F, fold-FieldPattern}
use Rattle.collections.specs.Below.{is_of}
use Rattle.collections.specs.Reads.{Reading, undefined, text, whole, truth, null, object, node, list, comments, field_read, place_read}

-- whether what was tried fits, and how many nodes were visited
pub record Told : Type 0 where
  pub fits : Bool
  pub visits : ℕ

abbrev pub told : Bool → Told
told b = record { fits = b; visits = 0 }

-- the second is tried only where the first fits
abbrev pub also : Told → Told → Told
also a b = if a.fits then record { fits = b.fits; visits = a.visits + b.visits } else a

-- what a pattern tells of what is read, and a field's of a node
abbrev pub Try : Type 0
Try = Store → Reading → Told

abbrev pub NodeTry : Type 0
NodeTry = Store → ℕ → Told

abbrev pub same_truth : Bool → Bool → Bool
same_truth true b = b
same_truth false b = not b

abbrev pub is_text : List ℕ → Reading → Bool
is_text t (text own) = bytes_eq t own
is_text t _ = false

abbrev pub is_whole : ℤ → Reading → Bool
is_whole n (whole own) = int_eq own n
is_whole n _ = false

abbrev pub is_truth : Bool → Reading → Bool
is_truth b (truth own) = same_truth own b
is_truth b _ = false

abbrev pub is_null : Reading → Bool
is_null null = true
is_null _ = false

-- the fields in order, up to the first that does not fit
abbrev pub fields_told : List NodeTry → NodeTry
fields_told [] A j = told true
fields_told (f ∷ fs) A j = also (f A j) (fields_told fs A j)

-- a node whose fields are tried is visited
abbrev pub below_told : List NodeTry → Try
below_told fs A (node j) = record { fits = (fields_told fs A j).fits; visits = (fields_told fs A j).visits + 1 }
below_told fs A _ = told false

-- there are so many places from one on
abbrev pub has_places : Forest → ℕ → Option ℕ → Bool
has_places F zero at = true
has_places F (suc n) None = false
has_places F (suc n) (Some p) = has_places F n (next_at F p)

-- the items from a place on in order, up to the first that does not fit
abbrev pub items_told : List Try → Store → Option ℕ → Told
items_told [] A at = told true
items_told (t ∷ ts) A None = told false
items_told (t ∷ ts) A (Some p) = also (t A (place_read A.forest p)) (items_told ts A (next_at A.forest p))

-- each fits an object that is no node
abbrev pub fit_object : List Try → Store → Bool
fit_object [] A = true
fit_object (t ∷ ts) A = (t A object).fits && fit_object ts A

-- a list that is at least as long; its length is asked first, and a comment is an object that is no node
abbrev pub list_told : List Try → Try
list_told ts A (list at) = if has_places A.forest (length ts) at then items_told ts A at else told false
list_told ts A (comments n) = told (not (nat_lt n (length ts)) && fit_object ts A)
list_told ts A _ = told false

abbrev pub field_step : FieldPattern-F Try NodeTry → NodeTry
field_step f = λ A j. f.pattern A (field_read A j f.name)

abbrev pub pattern_step : Pattern-F Try NodeTry → Try
pattern_step Pattern-F.Any = λ A r. told true
pattern_step (Pattern-F.Text t) = λ A r. told (is_text t r)
pattern_step (Pattern-F.Whole n) = λ A r. told (is_whole n r)
pattern_step (Pattern-F.Truth b) = λ A r. told (is_truth b r)
pattern_step Pattern-F.Null = λ A r. told (is_null r)
pattern_step (Pattern-F.Fields fs) = below_told fs
pattern_step (Pattern-F.Items ts) = list_told ts

-- what a pattern tells of what is read
abbrev pub tried : Pattern → Try
tried = fold-Pattern Try NodeTry pattern_step field_step

abbrev pub field_tried : FieldPattern → NodeTry
field_tried = fold-FieldPattern Try NodeTry pattern_step field_step

-- whether a node matches
abbrev pub matches_at : Store → ℕ → Pattern → Bool
matches_at A j pattern = (tried pattern A (node j)).fits

-- how many nodes below it are visited to tell
abbrev pub visits_at : Store → ℕ → Pattern → ℕ
visits_at A j pattern = (tried pattern A (node j)).visits - 1

-- what stands in a place, if anything does
abbrev pub stands_read : Option ℕ → Reading
stands_read None = undefined
stands_read (Some j) = node j

-- whether what stands in a place fits; where nothing stands, only what fits anything does
abbrev pub fits_place : Store → Pattern → ℕ → Bool
fits_place A pattern p = (tried pattern A (stands_read (node_at A.forest p))).fits

-- whether a node of the type that fits stands in the place
abbrev pub fits_type : Store → Pattern → NodeType → ℕ → Bool
fits_type A pattern of p = fits_place A pattern p && is_of A.forest of p
