-- The height of the highest tree, with one more at the end.
use Rattle.std.proofs.Common.{◌≡◌, ℕ, List, [], ◌∷◌, ◌++◌, map, Some, None, sym, ◌∙◌, ap, arith}
use Rattle.std.specs.Prelude.{max}
use Rattle.std.proofs.lemmas.List.{map-append}
use Rattle.tree_core.specs.declared.tree.Place.{Place}
use Rattle.tree_core.specs.declared.tree.Slot.{Slot}
use Rattle.tree_core.specs.Height.{height, slots_height, places_height}
use Rattle.tree_core.specs.Syntax.{Syntax}
use Rattle.tree_core.specs.View.{Spot, Row, place_view, slot_view, places_of, slots_of}
use Rattle.first_grammar.specs.Reading.{unnamed}

places_and_one : (xs : List Spot) (x : Syntax) → places_height (places_of (xs ++ unnamed x ∷ [])) ≡ max (places_height (places_of xs)) (height x)
places_and_one [] x = omega arith
places_and_one ((name, None) ∷ xs) x = places_and_one xs x
places_and_one ((name, Some y) ∷ xs) x = omega (arith, places_and_one xs x)

rows_and_one : (rows : List Row) (row : Row) → slots_height (slots_of (rows ++ row ∷ [])) ≡ max (slots_height (slots_of rows)) (places_height row.1)
rows_and_one [] row = omega arith
rows_and_one (first ∷ rows) row = omega (arith, rows_and_one rows row)

pub places_with : (old new : List Place) (p : Place) (x : Syntax) (a b n : ℕ) → new ≡ old ++ p ∷ [] → place_view p ≡ unnamed x → a ≡ places_height (places_of (map place_view old)) → b ≡ height x → n ≡ max a b
    → n ≡ places_height (places_of (map place_view new))
places_with old new p x a b n e f below here is =
    let all : map place_view new ≡ map place_view old ++ unnamed x ∷ [] = ap (map place_view) e ∙ map-append place_view old (p ∷ []) ∙ ap (λ z. map place_view old ++ z ∷ []) f in
    let both : n ≡ max (places_height (places_of (map place_view old))) (height x) = omega (arith, below, here, is) in
    both ∙ sym (ap (λ z. places_height (places_of z)) all ∙ places_and_one (map place_view old) x)

pub rows_with : (old new : List Slot) (s : Slot) (row : Row) (a b n : ℕ) → new ≡ old ++ s ∷ [] → slot_view s ≡ row → a ≡ slots_height (slots_of (map slot_view old)) → b ≡ places_height row.1 → n ≡ max a b
    → n ≡ slots_height (slots_of (map slot_view new))
rows_with old new s row a b n e f below here is =
    let all : map slot_view new ≡ map slot_view old ++ row ∷ [] = ap (map slot_view) e ∙ map-append slot_view old (s ∷ []) ∙ ap (λ z. map slot_view old ++ z ∷ []) f in
    let both : n ≡ max (slots_height (slots_of (map slot_view old))) (places_height row.1) = omega (arith, below, here, is) in
    both ∙ sym (ap (λ z. slots_height (slots_of z)) all ∙ rows_and_one (map slot_view old) row)
