-- The children of a node, counted over its slots.
use Rattle.std.proofs.Common.{◌≡◌, ℕ, zero, suc, ◌+◌, ◌-◌, ◌<◌, ◌≤◌, List, [], ◌∷◌, ◌++◌, length, map, get_or, drop, slice_get, Option, Some, None, refl, sym, ap, ◌∙◌, drop-cons, arith}
use Rattle.std.specs.Option.{option_map, option_flatten}
use Rattle.std.proofs.lemmas.Option.{slice_get-map, slice_get-get_or}
use Rattle.std.proofs.lemmas.List.{drop_all, length-map}
use Rattle.std.proofs.lemmas.Simd.{map-map}
use Rattle.tree_core.specs.declared.tree.Slot.{Slot}
use Rattle.tree_core.specs.declared.tree.Place.{Place}
use Rattle.tree_core.specs.Syntax.{Syntax}
use Rattle.tree_core.specs.View.{Spot, slot_view, place_view, slots_of, places_of}
use Rattle.tree_core.specs.Address.{in_slots, in_places}

-- what stands in the places of these slots
abbrev pub below_of : List Slot → List (Option Syntax)
below_of slots = in_slots (slots_of (map slot_view slots))

in_places_of : (spots : List Spot) → in_places (places_of spots) ≡ map (λ s. s.1) spots
in_places_of [] = refl
in_places_of ((name, None) ∷ spots) = ap (λ z. None ∷ z) (in_places_of spots)
in_places_of ((name, Some t) ∷ spots) = ap (λ z. Some t ∷ z) (in_places_of spots)

slice_get-before : (xs ys : List (Option Syntax)) (n : ℕ) → n < length xs → slice_get (xs ++ ys) n ≡ slice_get xs n
slice_get-before [] ys n h = absurd (omega arith)
slice_get-before (x ∷ xs) ys zero h = refl
slice_get-before (x ∷ xs) ys (suc n) h = slice_get-before xs ys n (omega arith)

slice_get-behind : (xs ys : List (Option Syntax)) (n : ℕ) → length xs ≤ n → slice_get (xs ++ ys) n ≡ slice_get ys (n - length xs)
slice_get-behind [] ys n h = let e : n ≡ n - 0 = omega arith in ap (slice_get ys) e
slice_get-behind (x ∷ xs) ys zero h = absurd (omega arith)
slice_get-behind (x ∷ xs) ys (suc n) h = let e : n - length xs ≡ suc n - length (x ∷ xs) = omega arith in slice_get-behind xs ys n (omega arith) ∙ ap (slice_get ys) e

length_at : (ps : List Place) → length (map (λ (p : Place). (place_view p).1) ps) ≡ length ps
length_at ps = length-map ps (λ (p : Place). (place_view p).1)

-- what the places of the slot at i hold, and then the slots behind it
split : (slots : List Slot) (i : ℕ) (s : Slot) (ps : List Place) → i < length slots → s ≡ get_or slots i s → places_of (map place_view ps) ≡ (slot_view s).1
    → below_of (drop i slots) ≡ map (λ (p : Place). (place_view p).1) ps ++ below_of (drop (i + 1) slots)
split slots i s ps lt is e =
    let a = sym (in_places_of (map place_view ps) ∙ map-map (λ (q : Spot). q.1) place_view ps) in
    let n : i + 1 ≡ suc i = omega arith in
    ap below_of (drop-cons slots i s lt)
    ∙ (ap (λ z. in_places (slot_view z).1 ++ below_of (drop (suc i) slots)) (sym is)
    ∙ (ap (λ z. in_places z ++ below_of (drop (suc i) slots)) (sym e)
    ∙ (ap (λ z. z ++ below_of (drop (suc i) slots)) (sym a)
    ∙ ap (λ z. map (λ (p : Place). (place_view p).1) ps ++ below_of (drop z slots)) (sym n))))

-- the number is within the slot in hand
pub child_here : (slots : List Slot) (i n : ℕ) (s : Slot) (ps : List Place) (p : Place) → i < length slots → s ≡ get_or slots i s → places_of (map place_view ps) ≡ (slot_view s).1
    → n < length ps → p ≡ get_or ps n p → option_flatten (slice_get (below_of (drop i slots)) n) ≡ (place_view p).1
child_here slots i n s ps p lt is e nlt pis =
    let kids = map (λ (q : Place). (place_view q).1) ps in
    let l : n < length kids = rw length_at nlt in
    let g : slice_get ps n ≡ Some p = slice_get-get_or ps n p nlt ∙ ap Some (sym pis) in
    ap (λ z. option_flatten (slice_get z n)) (split slots i s ps lt is e)
    ∙ ap option_flatten (slice_get-before kids (below_of (drop (i + 1) slots)) n l ∙ (slice_get-map (λ (q : Place). (place_view q).1) ps n ∙ ap (option_map (λ (q : Place). (place_view q).1)) g))

-- the number lies behind the slot in hand
pub child_behind : (slots : List Slot) (i n : ℕ) (s : Slot) (ps : List Place) → i < length slots → s ≡ get_or slots i s → places_of (map place_view ps) ≡ (slot_view s).1
    → length ps ≤ n → slice_get (below_of (drop (i + 1) slots)) (n - length ps) ≡ slice_get (below_of (drop i slots)) n
child_behind slots i n s ps lt is e le =
    let kids = map (λ (q : Place). (place_view q).1) ps in
    let l : length kids ≤ n = rw length_at le in
    sym (ap (λ z. slice_get z n) (split slots i s ps lt is e) ∙ (slice_get-behind kids (below_of (drop (i + 1) slots)) n l ∙ ap (λ z. slice_get (below_of (drop (i + 1) slots)) (n - z)) (length_at ps)))

-- no slot is left
pub child_past : (slots : List Slot) (i n : ℕ) → length slots ≤ i → option_flatten (slice_get (below_of (drop i slots)) n) ≡ None
child_past slots i n h = ap (λ z. option_flatten (slice_get (below_of z) n)) (drop_all i slots h)
