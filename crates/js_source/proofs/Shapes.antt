-- The fields of one node, and one more slot or place behind those that are in shape.
use Rattle.std.proofs.Common.{◌≡◌, ◌<◌, ◌+◌, ℕ, Bool, List, [], ◌∷◌, ◌++◌, Some, None, map, length, take, get_or, refl, sym, ◌∙◌, ap, subst}
use Rattle.std.proofs.lemmas.List.{get_or-map, length-map, map-append, take_more_same}
use Rattle.std.proofs.Math.Seq.{take-length}
use Rattle.tree_core.specs.declared.tree.Place.{Place}
use Rattle.tree_core.specs.declared.tree.Slot.{Slot}
use Rattle.tree_core.specs.View.{Row, Spot, slots_of, places_of, slot_view, place_view}
use Rattle.type_defs.specs.Fields.{FieldDef, row_of}
use Rattle.js_source.specs.Shaped.{lists_of, HasPlaces, SlotsInShape, PlacesInShape}

-- which of the slots are lists
abbrev pub slots_listed : List Slot → List Bool
slots_listed slots = map (λ s. (slot_view s).0) slots

-- which of the fields are lists
abbrev pub fields_listed : List FieldDef → List Bool
fields_listed fields = map (λ f. (row_of f).list) fields

lists_of-slots : (slots : List Slot) → lists_of (slots_of (map slot_view slots)) ≡ slots_listed slots
lists_of-slots [] = refl
lists_of-slots (s ∷ slots) = ap (λ z. (slot_view s).0 ∷ z) (lists_of-slots slots)

map-rows : (fields : List FieldDef) → fields_listed fields ≡ map (λ f. f.list) (map row_of fields)
map-rows [] = refl
map-rows (f ∷ fields) = ap (λ z. (row_of f).list ∷ z) (map-rows fields)

pub alike_more : (slots : List Slot) (fields : List FieldDef) (i : ℕ) (s : Slot) (d : FieldDef) → i < length slots → i < length fields
    → s ≡ get_or slots i s → (get_or fields i d).1.list ≡ (slot_view s).0
    → take i (slots_listed slots) ≡ take i (fields_listed fields) → take (i + 1) (slots_listed slots) ≡ take (i + 1) (fields_listed fields)
alike_more slots fields i s d hs hf es e h =
    let none = (slot_view s).0 in
    let this : get_or (slots_listed slots) i none ≡ (slot_view s).0 = get_or-map (λ s. (slot_view s).0) slots i s none hs ∙ ap (λ z. (slot_view z).0) (sym es) in
    let that : get_or (fields_listed fields) i none ≡ (get_or fields i d).1.list = get_or-map (λ f. (row_of f).list) fields i d none hf in
    let ls : i < length (slots_listed slots) = subst (λ n. i < n) (sym (length-map slots (λ s. (slot_view s).0))) hs in
    let lf : i < length (fields_listed fields) = subst (λ n. i < n) (sym (length-map fields (λ f. (row_of f).list))) hf in
    take_more_same (slots_listed slots) (fields_listed fields) i none ls lf h (this ∙ (sym e ∙ sym that))

pub alike_all : (slots : List Slot) (fields : List FieldDef) (n : ℕ) → n ≡ length slots → n ≡ length fields → take n (slots_listed slots) ≡ take n (fields_listed fields)
    → lists_of (slots_of (map slot_view slots)) ≡ map (λ f. f.list) (map row_of fields)
alike_all slots fields n es ef h =
    let ts : take n (slots_listed slots) ≡ slots_listed slots = ap (λ z. take z (slots_listed slots)) (es ∙ sym (length-map slots (λ s. (slot_view s).0))) ∙ take-length (slots_listed slots) in
    let tf : take n (fields_listed fields) ≡ fields_listed fields = ap (λ z. take z (fields_listed fields)) (ef ∙ sym (length-map fields (λ f. (row_of f).list))) ∙ take-length (fields_listed fields) in
    lists_of-slots slots ∙ (sym ts ∙ (h ∙ (tf ∙ map-rows fields)))

-- one more slot or place

rows_shaped : (rows : List Row) (row : Row) → SlotsInShape (slots_of rows) → HasPlaces row.0 row.1 → PlacesInShape row.1 → SlotsInShape (slots_of (rows ++ row ∷ []))
rows_shaped [] row h one k = ((one, k), h)
rows_shaped (first ∷ rows) row h one k = (h.0, rows_shaped rows row h.1 one k)

spots_shaped : (xs : List Spot) (x : Spot) → PlacesInShape (places_of xs) → PlacesInShape (places_of (x ∷ [])) → PlacesInShape (places_of (xs ++ x ∷ []))
spots_shaped [] x h k = k
spots_shaped ((name, None) ∷ xs) x h k = spots_shaped xs x h k
spots_shaped ((name, Some t) ∷ xs) x h k = (h.0, spots_shaped xs x h.1 k)

pub slots_shaped-push : (slots all : List Slot) (s : Slot) → all ≡ slots ++ s ∷ [] → SlotsInShape (slots_of (map slot_view slots))
    → HasPlaces (slot_view s).0 (slot_view s).1 → PlacesInShape (slot_view s).1 → SlotsInShape (slots_of (map slot_view all))
slots_shaped-push slots all s e h one k = rw e (rw (map-append slot_view slots (s ∷ [])) (rows_shaped (map slot_view slots) (slot_view s) h one k))

pub places_shaped-push : (places all : List Place) (p : Place) → all ≡ places ++ p ∷ [] → PlacesInShape (places_of (map place_view places))
    → PlacesInShape (places_of (place_view p ∷ [])) → PlacesInShape (places_of (map place_view all))
places_shaped-push places all p e h k = rw e (rw (map-append place_view places (p ∷ [])) (spots_shaped (map place_view places) (place_view p) h k))
