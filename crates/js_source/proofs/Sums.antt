-- What one more slot or place adds to a list of them.
use Rattle.std.proofs.Common.{◌≡◌, ◌≤◌, ◌+◌, ℕ, List, [], ◌∷◌, ◌++◌, Some, None, map, ◌∙◌, ap, arith}
use Rattle.std.proofs.lemmas.List.{map-append}
use Rattle.tree_core.specs.declared.tree.Place.{Place}
use Rattle.tree_core.specs.declared.tree.Slot.{Slot}
use Rattle.tree_core.specs.Height.{slots_height, places_height}
use Rattle.tree_core.specs.View.{Spot, Row, slots_of, places_of, slot_view, place_view}
use Rattle.tree_core.specs.Numbers.{slots_count, places_count}
use Rattle.js_source.specs.Sizes.{slots_places, all_places}

-- over rows and spots

rows_nodes : (rows : List Row) (row : Row) → slots_count (slots_of (rows ++ row ∷ [])) ≡ slots_count (slots_of rows) + places_count row.1
rows_nodes [] row = omega arith
rows_nodes (first ∷ rows) row = let h : slots_count (slots_of (rows ++ row ∷ [])) ≡ slots_count (slots_of rows) + places_count row.1 = rows_nodes rows row in omega arith

rows_places : (rows : List Row) (row : Row) → slots_places (slots_of (rows ++ row ∷ [])) ≡ slots_places (slots_of rows) + all_places row.1
rows_places [] row = omega arith
rows_places (first ∷ rows) row = let h : slots_places (slots_of (rows ++ row ∷ [])) ≡ slots_places (slots_of rows) + all_places row.1 = rows_places rows row in omega arith

rows_low : (rows : List Row) (row : Row) (depth : ℕ) → slots_height (slots_of rows) ≤ depth → places_height row.1 ≤ depth → slots_height (slots_of (rows ++ row ∷ [])) ≤ depth
rows_low [] row depth h k = grind arith
rows_low (first ∷ rows) row depth h k =
    let rest : slots_height (slots_of rows) ≤ depth = grind arith in
    let more : slots_height (slots_of (rows ++ row ∷ [])) ≤ depth = rows_low rows row depth rest k in
    grind arith

spots_nodes : (xs : List Spot) (x : Spot) → places_count (places_of (xs ++ x ∷ [])) ≡ places_count (places_of xs) + places_count (places_of (x ∷ []))
spots_nodes [] x = omega arith
spots_nodes ((name, None) ∷ xs) x = spots_nodes xs x
spots_nodes ((name, Some t) ∷ xs) x =
    let h : places_count (places_of (xs ++ x ∷ [])) ≡ places_count (places_of xs) + places_count (places_of (x ∷ [])) = spots_nodes xs x in omega arith

spots_places : (xs : List Spot) (x : Spot) → all_places (places_of (xs ++ x ∷ [])) ≡ all_places (places_of xs) + all_places (places_of (x ∷ []))
spots_places [] x = omega arith
spots_places ((name, None) ∷ xs) x =
    let h : all_places (places_of (xs ++ x ∷ [])) ≡ all_places (places_of xs) + all_places (places_of (x ∷ [])) = spots_places xs x in omega arith
spots_places ((name, Some t) ∷ xs) x =
    let h : all_places (places_of (xs ++ x ∷ [])) ≡ all_places (places_of xs) + all_places (places_of (x ∷ [])) = spots_places xs x in omega arith

spots_low : (xs : List Spot) (x : Spot) (depth : ℕ) → places_height (places_of xs) ≤ depth → places_height (places_of (x ∷ [])) ≤ depth → places_height (places_of (xs ++ x ∷ [])) ≤ depth
spots_low [] x depth h k = k
spots_low ((name, None) ∷ xs) x depth h k = spots_low xs x depth h k
spots_low ((name, Some t) ∷ xs) x depth h k =
    let rest : places_height (places_of xs) ≤ depth = grind arith in
    let more : places_height (places_of (xs ++ x ∷ [])) ≤ depth = spots_low xs x depth rest k in
    grind arith

-- over slots and places

pub slots_nodes-push : (slots all : List Slot) (s : Slot) → all ≡ slots ++ s ∷ [] → slots_count (slots_of (map slot_view all)) ≡ slots_count (slots_of (map slot_view slots)) + places_count (slot_view s).1
slots_nodes-push slots all s e = ap (λ z. slots_count (slots_of (map slot_view z))) e ∙ (ap (λ z. slots_count (slots_of z)) (map-append slot_view slots (s ∷ [])) ∙ rows_nodes (map slot_view slots) (slot_view s))

pub slots_places-push : (slots all : List Slot) (s : Slot) → all ≡ slots ++ s ∷ [] → slots_places (slots_of (map slot_view all)) ≡ slots_places (slots_of (map slot_view slots)) + all_places (slot_view s).1
slots_places-push slots all s e = ap (λ z. slots_places (slots_of (map slot_view z))) e ∙ (ap (λ z. slots_places (slots_of z)) (map-append slot_view slots (s ∷ [])) ∙ rows_places (map slot_view slots) (slot_view s))

pub slots_low-push : (slots all : List Slot) (s : Slot) (depth : ℕ) → all ≡ slots ++ s ∷ [] → slots_height (slots_of (map slot_view slots)) ≤ depth → places_height (slot_view s).1 ≤ depth → slots_height (slots_of (map slot_view all)) ≤ depth
slots_low-push slots all s depth e h k =
    rw e (rw (map-append slot_view slots (s ∷ [])) (rows_low (map slot_view slots) (slot_view s) depth h k))

pub places_nodes-push : (places all : List Place) (p : Place) → all ≡ places ++ p ∷ [] → places_count (places_of (map place_view all)) ≡ places_count (places_of (map place_view places)) + places_count (places_of (place_view p ∷ []))
places_nodes-push places all p e = ap (λ z. places_count (places_of (map place_view z))) e ∙ (ap (λ z. places_count (places_of z)) (map-append place_view places (p ∷ [])) ∙ spots_nodes (map place_view places) (place_view p))

pub all_places-push : (places all : List Place) (p : Place) → all ≡ places ++ p ∷ [] → all_places (places_of (map place_view all)) ≡ all_places (places_of (map place_view places)) + all_places (places_of (place_view p ∷ []))
all_places-push places all p e = ap (λ z. all_places (places_of (map place_view z))) e ∙ (ap (λ z. all_places (places_of z)) (map-append place_view places (p ∷ [])) ∙ spots_places (map place_view places) (place_view p))

pub places_low-push : (places all : List Place) (p : Place) (depth : ℕ) → all ≡ places ++ p ∷ [] → places_height (places_of (map place_view places)) ≤ depth → places_height (places_of (place_view p ∷ [])) ≤ depth → places_height (places_of (map place_view all)) ≤ depth
places_low-push places all p depth e h k =
    rw e (rw (map-append place_view places (p ∷ [])) (spots_low (map place_view places) (place_view p) depth h k))
