-- One more slot or place behind those that are numbered and nest.
use Rattle.std.proofs.Common.{◌≡◌, ◌+◌, ℕ, List, [], ◌∷◌, ◌++◌, Some, None, map, ◌∙◌, ap, arith}
use Rattle.std.proofs.lemmas.List.{map-append}
use Rattle.tree_core.specs.declared.span.Span.{Span}
use Rattle.tree_core.specs.declared.tree.Place.{Place}
use Rattle.tree_core.specs.declared.tree.Slot.{Slot}
use Rattle.tree_core.specs.Numbers.{count, slots_count, places_count, places_length, name_of, numbered, numbered_slots, numbered_places}
use Rattle.tree_core.specs.Syntax.{Slots, no_slots, slot, hole, place}
use Rattle.tree_core.specs.View.{Spot, Row, slots_of, places_of, slot_view, place_view}
use Rattle.js_source.specs.Nested.{SlotsNested, PlacesNested}

-- how many places the slots have
abbrev pub slots_length : Slots → ℕ
slots_length no_slots = 0
slots_length (slot list places more) = places_length places + slots_length more

-- over rows and spots

rows_length : (rows : List Row) (row : Row) → slots_length (slots_of (rows ++ row ∷ [])) ≡ slots_length (slots_of rows) + places_length row.1
rows_length [] row = omega arith
rows_length (first ∷ rows) row = let h : slots_length (slots_of (rows ++ row ∷ [])) ≡ slots_length (slots_of rows) + places_length row.1 = rows_length rows row in omega arith

spots_length : (xs : List Spot) (x : Spot) → places_length (places_of (xs ++ x ∷ [])) ≡ places_length (places_of xs) + 1
spots_length [] (name, None) = omega arith
spots_length [] (name, Some t) = omega arith
spots_length ((name, None) ∷ xs) x = let h : places_length (places_of (xs ++ x ∷ [])) ≡ places_length (places_of xs) + 1 = spots_length xs x in omega arith
spots_length ((name, Some t) ∷ xs) x = let h : places_length (places_of (xs ++ x ∷ [])) ≡ places_length (places_of xs) + 1 = spots_length xs x in omega arith

rows_numbered : (parent child n : ℕ) (rows : List Row) (row : Row) → slots_of rows ≡ numbered_slots parent child n (slots_of rows)
    → row.1 ≡ numbered_places parent (child + slots_length (slots_of rows)) (n + slots_count (slots_of rows)) row.1
    → slots_of (rows ++ row ∷ []) ≡ numbered_slots parent child n (slots_of (rows ++ row ∷ []))
rows_numbered parent child n [] row e h =
    let c : child + 0 ≡ child = omega arith in
    let m : n + 0 ≡ n = omega arith in
    ap (λ z. slot row.0 z no_slots) (h ∙ (ap (λ z. numbered_places parent z (n + 0) row.1) c ∙ ap (λ z. numbered_places parent child z row.1) m))
rows_numbered parent child n (first ∷ rows) row e h =
    let ef : first.1 ≡ numbered_places parent child n first.1 = cc in
    let er : slots_of rows ≡ numbered_slots parent (child + places_length first.1) (n + places_count first.1) (slots_of rows) = cc in
    let c : child + slots_length (slots_of (first ∷ rows)) ≡ child + places_length first.1 + slots_length (slots_of rows) = omega arith in
    let m : n + slots_count (slots_of (first ∷ rows)) ≡ n + places_count first.1 + slots_count (slots_of rows) = omega arith in
    let hr : row.1 ≡ numbered_places parent (child + places_length first.1 + slots_length (slots_of rows)) (n + places_count first.1 + slots_count (slots_of rows)) row.1
    = h ∙ (ap (λ z. numbered_places parent z (n + slots_count (slots_of (first ∷ rows))) row.1) c ∙ ap (λ z. numbered_places parent (child + places_length first.1 + slots_length (slots_of rows)) z row.1) m) in
    let rest = rows_numbered parent (child + places_length first.1) (n + places_count first.1) rows row er hr in
    ap (λ z. slot first.0 z (slots_of (rows ++ row ∷ []))) ef ∙ ap (λ z. slot first.0 (numbered_places parent child n first.1) z) rest

spots_numbered : (parent child n : ℕ) (xs : List Spot) (x : Spot) → places_of xs ≡ numbered_places parent child n (places_of xs)
    → places_of (x ∷ []) ≡ numbered_places parent (child + places_length (places_of xs)) (n + places_count (places_of xs)) (places_of (x ∷ []))
    → places_of (xs ++ x ∷ []) ≡ numbered_places parent child n (places_of (xs ++ x ∷ []))
spots_numbered parent child n [] x e h =
    let c : child + 0 ≡ child = omega arith in
    let m : n + 0 ≡ n = omega arith in
    h ∙ (ap (λ z. numbered_places parent z (n + 0) (places_of (x ∷ []))) c ∙ ap (λ z. numbered_places parent child z (places_of (x ∷ []))) m)
spots_numbered parent child n ((name, None) ∷ xs) x e h =
    let en : name ≡ (name_of parent child) = cc in
    let er : places_of xs ≡ numbered_places parent (child + 1) n (places_of xs) = cc in
    let c : child + places_length (places_of ((name, None) ∷ xs)) ≡ child + 1 + places_length (places_of xs) = omega arith in
    let hr : places_of (x ∷ []) ≡ numbered_places parent (child + 1 + places_length (places_of xs)) (n + places_count (places_of xs)) (places_of (x ∷ []))
    = h ∙ ap (λ z. numbered_places parent z (n + places_count (places_of xs)) (places_of (x ∷ []))) c in
    let rest = spots_numbered parent (child + 1) n xs x er hr in
    ap (λ z. hole z (places_of (xs ++ x ∷ []))) en ∙ ap (hole (name_of parent child)) rest
spots_numbered parent child n ((name, Some t) ∷ xs) x e h =
    let en : name ≡ (name_of parent child) = cc in
    let et : t ≡ numbered n t = cc in
    let er : places_of xs ≡ numbered_places parent (child + 1) (n + count t) (places_of xs) = cc in
    let c : child + places_length (places_of ((name, Some t) ∷ xs)) ≡ child + 1 + places_length (places_of xs) = omega arith in
    let m : n + places_count (places_of ((name, Some t) ∷ xs)) ≡ n + count t + places_count (places_of xs) = omega arith in
    let hr : places_of (x ∷ []) ≡ numbered_places parent (child + 1 + places_length (places_of xs)) (n + count t + places_count (places_of xs)) (places_of (x ∷ []))
    = h ∙ (ap (λ z. numbered_places parent z (n + places_count (places_of ((name, Some t) ∷ xs))) (places_of (x ∷ []))) c ∙ ap (λ z. numbered_places parent (child + 1 + places_length (places_of xs)) z (places_of (x ∷ []))) m) in
    let rest = spots_numbered parent (child + 1) (n + count t) xs x er hr in
    ap (λ z. place z t (places_of (xs ++ x ∷ []))) en ∙ (ap (λ z. place (name_of parent child) z (places_of (xs ++ x ∷ []))) et ∙ ap (place (name_of parent child) (numbered n t)) rest)

rows_nested : (spans : List Span) (outer : Span) (rows : List Row) (row : Row) → SlotsNested spans outer (slots_of rows) → PlacesNested spans outer row.1 → SlotsNested spans outer (slots_of (rows ++ row ∷ []))
rows_nested spans outer [] row h k = (k, h)
rows_nested spans outer (first ∷ rows) row h k = (h.0, rows_nested spans outer rows row h.1 k)

spots_nested : (spans : List Span) (outer : Span) (xs : List Spot) (x : Spot) → PlacesNested spans outer (places_of xs) → PlacesNested spans outer (places_of (x ∷ [])) → PlacesNested spans outer (places_of (xs ++ x ∷ []))
spots_nested spans outer [] x h k = k
spots_nested spans outer ((name, None) ∷ xs) x h k = spots_nested spans outer xs x h k
spots_nested spans outer ((name, Some t) ∷ xs) x h k = (h.0, spots_nested spans outer xs x h.1 k)

-- over slots and places

slots_pushed : (slots all : List Slot) (s : Slot) → all ≡ slots ++ s ∷ [] → map slot_view all ≡ map slot_view slots ++ slot_view s ∷ []
slots_pushed slots all s e = ap (map slot_view) e ∙ map-append slot_view slots (s ∷ [])

places_pushed : (places all : List Place) (p : Place) → all ≡ places ++ p ∷ [] → map place_view all ≡ map place_view places ++ place_view p ∷ []
places_pushed places all p e = ap (map place_view) e ∙ map-append place_view places (p ∷ [])

pub slots_length-push : (slots all : List Slot) (s : Slot) → all ≡ slots ++ s ∷ [] → slots_length (slots_of (map slot_view all)) ≡ slots_length (slots_of (map slot_view slots)) + places_length (slot_view s).1
slots_length-push slots all s e = ap (λ z. slots_length (slots_of z)) (slots_pushed slots all s e) ∙ rows_length (map slot_view slots) (slot_view s)

pub places_length-push : (places all : List Place) (p : Place) → all ≡ places ++ p ∷ [] → places_length (places_of (map place_view all)) ≡ places_length (places_of (map place_view places)) + 1
places_length-push places all p e = ap (λ z. places_length (places_of z)) (places_pushed places all p e) ∙ spots_length (map place_view places) (place_view p)

pub slots_numbered-push : (parent child next n m : ℕ) (slots all : List Slot) (s : Slot) → all ≡ slots ++ s ∷ []
    → next ≡ child + slots_length (slots_of (map slot_view slots)) → m ≡ n + slots_count (slots_of (map slot_view slots))
    → slots_of (map slot_view slots) ≡ numbered_slots parent child n (slots_of (map slot_view slots)) → (slot_view s).1 ≡ numbered_places parent next m (slot_view s).1
    → slots_of (map slot_view all) ≡ numbered_slots parent child n (slots_of (map slot_view all))
slots_numbered-push parent child next n m slots all s e c d h k =
    let kn : (slot_view s).1 ≡ numbered_places parent (child + slots_length (slots_of (map slot_view slots))) (n + slots_count (slots_of (map slot_view slots))) (slot_view s).1
    = k ∙ (ap (λ z. numbered_places parent z m (slot_view s).1) c ∙ ap (λ z. numbered_places parent (child + slots_length (slots_of (map slot_view slots))) z (slot_view s).1) d) in
    rw (slots_pushed slots all s e) (rows_numbered parent child n (map slot_view slots) (slot_view s) h kn)

pub places_numbered-push : (parent child next n m : ℕ) (places all : List Place) (p : Place) → all ≡ places ++ p ∷ []
    → next ≡ child + places_length (places_of (map place_view places)) → m ≡ n + places_count (places_of (map place_view places))
    → places_of (map place_view places) ≡ numbered_places parent child n (places_of (map place_view places)) → places_of (place_view p ∷ []) ≡ numbered_places parent next m (places_of (place_view p ∷ []))
    → places_of (map place_view all) ≡ numbered_places parent child n (places_of (map place_view all))
places_numbered-push parent child next n m places all p e c d h k =
    let kn : places_of (place_view p ∷ []) ≡ numbered_places parent (child + places_length (places_of (map place_view places))) (n + places_count (places_of (map place_view places))) (places_of (place_view p ∷ []))
    = k ∙ (ap (λ z. numbered_places parent z m (places_of (place_view p ∷ []))) c ∙ ap (λ z. numbered_places parent (child + places_length (places_of (map place_view places))) z (places_of (place_view p ∷ []))) d) in
    rw (places_pushed places all p e) (spots_numbered parent child n (map place_view places) (place_view p) h kn)

pub slots_nested-push : (spans : List Span) (outer : Span) (slots all : List Slot) (s : Slot) → all ≡ slots ++ s ∷ []
    → SlotsNested spans outer (slots_of (map slot_view slots)) → PlacesNested spans outer (slot_view s).1 → SlotsNested spans outer (slots_of (map slot_view all))
slots_nested-push spans outer slots all s e h k = rw (slots_pushed slots all s e) (rows_nested spans outer (map slot_view slots) (slot_view s) h k)

pub places_nested-push : (spans : List Span) (outer : Span) (places all : List Place) (p : Place) → all ≡ places ++ p ∷ []
    → PlacesNested spans outer (places_of (map place_view places)) → PlacesNested spans outer (places_of (place_view p ∷ [])) → PlacesNested spans outer (places_of (map place_view all))
places_nested-push spans outer places all p e h k = rw (places_pushed places all p e) (spots_nested spans outer (map place_view places) (place_view p) h k)
