-- Leaves that are spelled stay so when more spans come behind, and with one more slot or place.
use Rattle.std.proofs.Common.{◌≡◌, ◌≤◌, ◌+◌, ℕ, List, [], ◌∷◌, ◌++◌, Some, None, map, length, sym, ◌∙◌, ap, subst, arith}
use Rattle.std.proofs.lemmas.List.{map-append}
use Rattle.type_defs.specs.declared.kind.Kind.{Kind}
use Rattle.tree_core.specs.declared.scalars.Scalar.{Scalar}
use Rattle.tree_core.specs.declared.span.Span.{Span}
use Rattle.tree_core.specs.declared.tree.Place.{Place}
use Rattle.tree_core.specs.declared.tree.Slot.{Slot}
use Rattle.tree_core.specs.Notes.{Notes}
use Rattle.tree_core.specs.Numbers.{count, slots_count, places_count, places_length, numbered, numbered_slots, numbered_places, span_of}
use Rattle.tree_core.specs.Syntax.{Syntax, node, Slots, no_slots, slot, Places, no_places, hole, place}
use Rattle.tree_core.specs.View.{Row, Spot, slots_of, places_of, slot_view, place_view}
use Rattle.leaf_spellings.specs.Leaves.{LeafSpelled}
use Rattle.js_source.specs.Leaves.{LeavesSpelled, SlotsSpelled, PlacesSpelled}
use Rattle.js_source.specs.Nested.{Grows}
use Rattle.js_source.proofs.Nests.{span_kept, last_kept}

mutual
  leaves_kept : (s : List ℕ) (a b : List Span) → Grows a b → (n : ℕ) (t : Syntax) → t ≡ numbered n t → n + count t ≤ length a → LeavesSpelled s a t → LeavesSpelled s b t
  leaves_kept s a b g n (node kind scalars slots notes from) e le h =
      let f : from ≡ Some n = cc in
      let es : slots ≡ numbered_slots n 0 (n + 1) slots = cc in
      let w : span_of b from ≡ span_of a from = ap (span_of b) f ∙ (span_kept a b n g (omega arith) ∙ ap (span_of a) (sym f)) in
      (subst (λ z. LeafSpelled s z (node kind scalars slots notes from)) (sym w) h.0, slots_spelled_kept s a b g n 0 (n + 1) slots es (omega arith) h.1)

  pub slots_spelled_kept : (s : List ℕ) (a b : List Span) → Grows a b → (parent child n : ℕ) (x : Slots) → x ≡ numbered_slots parent child n x → n + slots_count x ≤ length a → SlotsSpelled s a x → SlotsSpelled s b x
  slots_spelled_kept s a b g parent child n no_slots e le h = h
  slots_spelled_kept s a b g parent child n (slot list places more) e le h =
      let ep : places ≡ numbered_places parent child n places = cc in
      let em : more ≡ numbered_slots parent (child + places_length places) (n + places_count places) more = cc in
      (places_spelled_kept s a b g parent child n places ep (omega arith) h.0, slots_spelled_kept s a b g parent (child + places_length places) (n + places_count places) more em (omega arith) h.1)

  pub places_spelled_kept : (s : List ℕ) (a b : List Span) → Grows a b → (parent child n : ℕ) (x : Places) → x ≡ numbered_places parent child n x → n + places_count x ≤ length a → PlacesSpelled s a x → PlacesSpelled s b x
  places_spelled_kept s a b g parent child n no_places e le h = h
  places_spelled_kept s a b g parent child n (hole name more) e le h =
      let em : more ≡ numbered_places parent (child + 1) n more = cc in
      places_spelled_kept s a b g parent (child + 1) n more em le h
  places_spelled_kept s a b g parent child n (place name t more) e le h =
      let et : t ≡ numbered n t = cc in
      let em : more ≡ numbered_places parent (child + 1) (n + count t) more = cc in
      (leaves_kept s a b g n t et (omega arith) h.0, places_spelled_kept s a b g parent (child + 1) (n + count t) more em (omega arith) h.1)

-- a node that was given the next number, and its slots
pub node_spelled : (s : List ℕ) (t : Syntax) (kind : Kind) (scalars : List Scalar) (slots : Slots) (notes : Notes) (a b : List Span) (x : Span) (n : ℕ) → t ≡ node kind scalars slots notes (Some n)
    → n ≡ length a → Grows (a ++ x ∷ []) b → LeafSpelled s x t → SlotsSpelled s b slots → LeavesSpelled s b t
node_spelled s t kind scalars slots notes a b x n is e g l more =
    let w : span_of b (Some n) ≡ x = ap (λ z. span_of b (Some z)) e ∙ last_kept a b x g in
    let here : LeafSpelled s x (node kind scalars slots notes (Some n)) = subst (LeafSpelled s x) is l in
    subst (LeavesSpelled s b) (sym is) (subst (λ z. LeafSpelled s z (node kind scalars slots notes (Some n))) (sym w) here, more)

rows_spelled : (s : List ℕ) (spans : List Span) (rows : List Row) (row : Row) → SlotsSpelled s spans (slots_of rows) → PlacesSpelled s spans row.1 → SlotsSpelled s spans (slots_of (rows ++ row ∷ []))
rows_spelled s spans [] row h k = (k, h)
rows_spelled s spans (first ∷ rows) row h k = (h.0, rows_spelled s spans rows row h.1 k)

spots_spelled : (s : List ℕ) (spans : List Span) (xs : List Spot) (x : Spot) → PlacesSpelled s spans (places_of xs) → PlacesSpelled s spans (places_of (x ∷ [])) → PlacesSpelled s spans (places_of (xs ++ x ∷ []))
spots_spelled s spans [] x h k = k
spots_spelled s spans ((name, None) ∷ xs) x h k = spots_spelled s spans xs x h k
spots_spelled s spans ((name, Some t) ∷ xs) x h k = (h.0, spots_spelled s spans xs x h.1 k)

pub slots_spelled-push : (s : List ℕ) (spans : List Span) (slots all : List Slot) (x : Slot) → all ≡ slots ++ x ∷ []
    → SlotsSpelled s spans (slots_of (map slot_view slots)) → PlacesSpelled s spans (slot_view x).1 → SlotsSpelled s spans (slots_of (map slot_view all))
slots_spelled-push s spans slots all x e h k = rw e (rw (map-append slot_view slots (x ∷ [])) (rows_spelled s spans (map slot_view slots) (slot_view x) h k))

pub places_spelled-push : (s : List ℕ) (spans : List Span) (places all : List Place) (x : Place) → all ≡ places ++ x ∷ []
    → PlacesSpelled s spans (places_of (map place_view places)) → PlacesSpelled s spans (places_of (place_view x ∷ [])) → PlacesSpelled s spans (places_of (map place_view all))
places_spelled-push s spans places all x e h k = rw e (rw (map-append place_view places (x ∷ [])) (spots_spelled s spans (map place_view places) (place_view x) h k))
