-- The child in the first place of the first slot is what stands there.
use Rattle.std.proofs.Common.{◌≡◌, ◌<◌, ◌+◌, ℕ, zero, suc, Bool, true, false, List, [], ◌∷◌, ◌++◌, Option, Some, length, map, take, drop, refl, subst, sym, arith}
use Rattle.std.specs.Prelude.{if◌then◌else◌, slice_index_or}
use Rattle.tree_core.specs.declared.scalars.Scalar.{Scalar}
use Rattle.tree_core.specs.Notes.{Notes}
use Rattle.tree_core.specs.Syntax.{Syntax, node, Slots, no_slots, slot, Places, no_places, hole, place}
use Rattle.type_defs.specs.declared.kind.Kind.{Kind}
use Rattle.js_forms.specs.declared.category.Category.{Category}
use Rattle.tree_forms.specs.declared.variant.Variant.{Variant}
use Rattle.comment_places.specs.declared.children.Child.{Child}
use Rattle.comment_places.specs.Children.{Kid, kid_view, next, in_places, in_slots, behind, stands_nowhere, category_at, first_of, rest_of, turns, in_turns, in_text, character_count, is_template, children}
use Rattle.comment_places.specs.Seats.{StandsFirst}

abbrev AllFirst : Syntax → List Kid → Type 0
AllFirst x [] = Unit {0}
AllFirst x (kid ∷ more) = StandsFirst x kid × AllFirst x more

joined : (x : Syntax) (xs ys : List Kid) → AllFirst x xs → AllFirst x ys → AllFirst x (xs ++ ys)
joined x [] ys a b = b
joined x (kid ∷ xs) ys a b = (a.0, joined x xs ys a.1 b)

taken : (x : Syntax) (n : ℕ) (xs : List Kid) → AllFirst x xs → AllFirst x (take n xs)
taken x zero xs a = tt
taken x (suc n) [] a = tt
taken x (suc n) (kid ∷ xs) a = (a.0, taken x n xs a.1)

dropped : (x : Syntax) (n : ℕ) (xs : List Kid) → AllFirst x xs → AllFirst x (drop n xs)
dropped x zero xs a = a
dropped x (suc n) [] a = tt
dropped x (suc n) (kid ∷ xs) a = dropped x n xs a.1

first_ones : (x : Syntax) (xs : List Kid) → AllFirst x xs → AllFirst x (first_of xs)
first_ones x [] a = tt
first_ones x (kid ∷ xs) a = (a.0, tt)

other_ones : (x : Syntax) (xs : List Kid) → AllFirst x xs → AllFirst x (rest_of xs)
other_ones x [] a = tt
other_ones x (kid ∷ xs) a = a.1

in_turn : (x : Syntax) (xs ys : List Kid) → AllFirst x xs → AllFirst x ys → AllFirst x (turns xs ys)
in_turn x [] ys a b = b
in_turn x (kid ∷ xs) ys a b = (a.0, joined x (first_of ys) (turns xs (rest_of ys)) (first_ones x ys b) (in_turn x xs (rest_of ys) a.1 (other_ones x ys b)))

unless : (x : Syntax) (b : Bool) (xs : List Kid) → AllFirst x xs → AllFirst x (if b then [] else xs)
unless x true xs a = tt
unless x false xs a = a

-- behind the first slot, and behind the first place
later_slot : (x : Syntax) (at : ℕ) (c : Category) (n : ℕ) (p : Places) → 0 < at → AllFirst x (in_places at c n p)
later_slot x at c n no_places h = tt
later_slot x at c n (hole name more) h = later_slot x at c (next n) more h
later_slot x at c n (place name t more) h = ((λ e d. absurd (omega arith)), later_slot x at c (next n) more h)

later_place : (x : Syntax) (c : Category) (n : ℕ) (p : Places) → 0 < n → AllFirst x (in_places 0 c n p)
later_place x c n no_places h = tt
later_place x c n (hole name more) h = later_place x c (next n) more (omega arith)
later_place x c n (place name t more) h = ((λ e d. absurd (omega arith)), later_place x c (next n) more (omega arith))

later_slots : (x : Syntax) (v : Option Variant) (at n : ℕ) (slots : Slots) → 0 < at → AllFirst x (in_slots v at n slots)
later_slots x v at n no_slots h = tt
later_slots x v at n (slot list first more) h = joined x _ _ (unless x (stands_nowhere v at) _ (later_slot x at (category_at v at) n first h)) (later_slots x v (at + 1) (behind n first) more (omega arith))

-- what the first slot has, and then the others
both_parts : (x : Syntax) (v : Option Variant) (first : Places) (more : Slots) → AllFirst x (in_places 0 (category_at v 0) 0 first)
    → AllFirst x ((if stands_nowhere v 0 then [] else in_places 0 (category_at v 0) 0 first) ++ in_slots v 1 (behind 0 first) more)
both_parts x v first more a =
    joined x (if stands_nowhere v 0 then [] else in_places 0 (category_at v 0) 0 first) (in_slots v 1 (behind 0 first) more)
    (unless x (stands_nowhere v 0) (in_places 0 (category_at v 0) 0 first) a) (later_slots x v 1 (behind 0 first) more (omega arith))

all_slots : (v : Option Variant) (kind : Kind) (found : List Scalar) (slots : Slots) (notes : Notes) (from : Option ℕ) → AllFirst (node kind found slots notes from) (in_slots v 0 0 slots)
all_slots v kind found no_slots notes from = tt
all_slots v kind found (slot list no_places more) notes from = both_parts (node kind found (slot list no_places more) notes from) v no_places more tt
all_slots v kind found (slot list (hole name rest) more) notes from =
    both_parts (node kind found (slot list (hole name rest) more) notes from) v (hole name rest) more
    (later_place (node kind found (slot list (hole name rest) more) notes from) (category_at v 0) (next 0) rest (omega arith))
all_slots v kind found (slot list (place name t rest) more) notes from =
    both_parts (node kind found (slot list (place name t rest) more) notes from) v (place name t rest) more
    ((λ e d. refl), later_place (node kind found (slot list (place name t rest) more) notes from) (category_at v 0) (next 0) rest (omega arith))

in_the_text : (x : Syntax) (template : Bool) (kids : List Kid) → AllFirst x kids → AllFirst x (in_text template kids)
in_the_text x true kids a = in_turn x (take (character_count kids) kids) (drop (character_count kids) kids) (taken x (character_count kids) kids a) (dropped x (character_count kids) kids a)
in_the_text x false kids a = a

all_children : (v : Option Variant) (x : Syntax) → AllFirst x (children v x)
all_children v (node kind found slots notes from) = in_the_text (node kind found slots notes from) (is_template v) (in_slots v 0 0 slots) (all_slots v kind found slots notes from)

at_index : (x : Syntax) (xs : List Child) (n : ℕ) (other : Child) → AllFirst x (map kid_view xs) → n < length xs → StandsFirst x (kid_view (slice_index_or xs n other))
at_index x [] n other a h = absurd (omega arith)
at_index x (child ∷ xs) zero other a h = a.0
at_index x (child ∷ xs) (suc n) other a h = at_index x xs n other a.1 (omega arith)

pub child_first : (v : Option Variant) (x : Syntax) (xs : List Child) (n : ℕ) (other : Child) → map kid_view xs ≡ children v x → n < length xs → StandsFirst x (kid_view (slice_index_or xs n other))
child_first v x xs n other is h = at_index x xs n other (subst (AllFirst x) (sym is) (all_children v x)) h
