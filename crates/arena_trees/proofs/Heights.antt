-- The greatest height with one more place or slot.
use Rattle.std.proofs.Common.{◌≡◌, ◌∙◌, ap, ℕ, ◌≤◌, max, List, [], ◌∷◌, ◌++◌, map, Some, None, arith}
use Rattle.std.proofs.lemmas.List.{map-append}
use Rattle.tree_core.specs.declared.tree.Slot.{Slot}
use Rattle.tree_core.specs.declared.tree.Place.{Place}
use Rattle.tree_core.specs.Height.{places_height, slots_height}
use Rattle.tree_core.specs.View.{Row, Spot, place_view, places_of, slot_view, slots_of}

spots_more : (xs : List Spot) (p : Spot) → places_height (places_of (xs ++ p ∷ [])) ≡ max (places_height (places_of xs)) (places_height (places_of (p ∷ [])))
spots_more [] p = omega arith
spots_more ((name, None) ∷ xs) p = spots_more xs p
spots_more ((name, Some t) ∷ xs) p = let e = spots_more xs p in omega arith

rows_more : (xs : List Row) (r : Row) → slots_height (slots_of (xs ++ r ∷ [])) ≡ max (slots_height (slots_of xs)) (places_height r.1)
rows_more [] r = omega arith
rows_more (x ∷ xs) r = let e = rows_more xs r in omega arith

pub places_more : (n : ℕ) (xs ys : List Place) (p : Place) → ys ≡ xs ++ p ∷ [] → places_height (places_of (map place_view xs)) ≤ n → places_height (places_of (place_view p ∷ [])) ≤ n → places_height (places_of (map place_view ys)) ≤ n
places_more n xs ys p e a b =
    let m = ap (λ z. places_height (places_of z)) (ap (map place_view) e ∙ map-append place_view xs (p ∷ [])) ∙ spots_more (map place_view xs) (place_view p) in
    omega arith

pub slots_more : (n : ℕ) (xs ys : List Slot) (s : Slot) → ys ≡ xs ++ s ∷ [] → slots_height (slots_of (map slot_view xs)) ≤ n → places_height (slot_view s).1 ≤ n → slots_height (slots_of (map slot_view ys)) ≤ n
slots_more n xs ys s e a b =
    let m = ap (λ z. slots_height (slots_of z)) (ap (map slot_view) e ∙ map-append slot_view xs (s ∷ [])) ∙ rows_more (map slot_view xs) (slot_view s) in
    omega arith
