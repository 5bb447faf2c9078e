-- Spans that nest go on to nest when more of them come behind.
use Rattle.std.proofs.Common.{◌≡◌, ◌≤◌, ◌<◌, ◌+◌, ℕ, zero, suc, List, [], ◌∷◌, ◌++◌, Some, length, length-append, append-nil, drop, slice_get, refl, sym, ◌∙◌, ap, subst, arith}
use Rattle.std.proofs.lemmas.List.{append_assoc}
use Rattle.std.proofs.Math.Seq.{drop-append_seam}
use Rattle.std.specs.Prelude.{unwrap_or}
use Rattle.type_defs.specs.declared.kind.Kind.{Kind}
use Rattle.tree_core.specs.declared.scalars.Scalar.{Scalar}
use Rattle.tree_core.specs.declared.span.Span.{Span}
use Rattle.tree_core.specs.Notes.{Notes}
use Rattle.tree_core.specs.Numbers.{count, slots_count, places_count, places_length, numbered, numbered_slots, numbered_places, nowhere, span_of}
use Rattle.tree_core.specs.Syntax.{Syntax, node, Slots, no_slots, slot, Places, no_places, hole, place}
use Rattle.js_source.specs.Nested.{Grows, Lies, Nested, SlotsNested, PlacesNested}

pub grows_by : (a b more : List Span) → b ≡ a ++ more → Grows a b
grows_by a b more e = e ∙ ap (λ z. a ++ z) (sym (ap (drop (length a)) e ∙ drop-append_seam a more))

pub grows_none : (a : List Span) → Grows a a
grows_none a = grows_by a a [] (sym (append-nil a))

pub grows_on : (a b c : List Span) → Grows a b → Grows b c → Grows a c
grows_on a b c g h =
    grows_by a c (drop (length a) b ++ drop (length b) c) (h ∙ (ap (λ z. z ++ drop (length b) c) g ∙ append_assoc a (drop (length a) b) (drop (length b) c)))

got_before : (a more : List Span) (n : ℕ) → n < length a → slice_get (a ++ more) n ≡ slice_get a n
got_before [] more n h = absurd (omega arith)
got_before (x ∷ a) more zero h = refl
got_before (x ∷ a) more (suc n) h = got_before a more n (omega arith)

pub span_kept : (a b : List Span) (n : ℕ) → Grows a b → n < length a → span_of b (Some n) ≡ span_of a (Some n)
span_kept a b n g h = ap (λ z. unwrap_or (slice_get z n) nowhere) g ∙ ap (λ z. unwrap_or z nowhere) (got_before a (drop (length a) b) n h)

got_last : (a : List Span) (x : Span) → slice_get (a ++ x ∷ []) (length a) ≡ Some x
got_last [] x = refl
got_last (y ∷ a) x = got_last a x

-- the span that was put last is found at its number, also when more come behind
pub last_kept : (a b : List Span) (x : Span) → Grows (a ++ x ∷ []) b → span_of b (Some (length a)) ≡ x
last_kept a b x g =
    let n : length (a ++ x ∷ []) ≡ length a + 1 = grind (arith, length-append) in
    span_kept (a ++ x ∷ []) b (length a) g (omega arith) ∙ ap (λ z. unwrap_or z nowhere) (got_last a x)

mutual
  pub nested_kept : (a b : List Span) → Grows a b → (outer : Span) (n : ℕ) (t : Syntax) → t ≡ numbered n t → n + count t ≤ length a → Nested a outer t → Nested b outer t
  nested_kept a b g outer n (node kind scalars slots notes from) e le h =
      let f : from ≡ Some n = cc in
      let es : slots ≡ numbered_slots n 0 (n + 1) slots = cc in
      let w : span_of b from ≡ span_of a from = ap (span_of b) f ∙ (span_kept a b n g (omega arith) ∙ ap (span_of a) (sym f)) in
      subst (λ z. Lies outer z × SlotsNested b z slots) (sym w) (h.0, slots_kept a b g (span_of a from) n 0 (n + 1) slots es (omega arith) h.1)

  pub slots_kept : (a b : List Span) → Grows a b → (outer : Span) (parent child n : ℕ) (s : Slots) → s ≡ numbered_slots parent child n s → n + slots_count s ≤ length a → SlotsNested a outer s → SlotsNested b outer s
  slots_kept a b g outer parent child n no_slots e le h = h
  slots_kept a b g outer parent child n (slot list places more) e le h =
      let ep : places ≡ numbered_places parent child n places = cc in
      let em : more ≡ numbered_slots parent (child + places_length places) (n + places_count places) more = cc in
      (places_kept a b g outer parent child n places ep (omega arith) h.0, slots_kept a b g outer parent (child + places_length places) (n + places_count places) more em (omega arith) h.1)

  pub places_kept : (a b : List Span) → Grows a b → (outer : Span) (parent child n : ℕ) (p : Places) → p ≡ numbered_places parent child n p → n + places_count p ≤ length a → PlacesNested a outer p → PlacesNested b outer p
  places_kept a b g outer parent child n no_places e le h = h
  places_kept a b g outer parent child n (hole name more) e le h =
      let em : more ≡ numbered_places parent (child + 1) n more = cc in
      places_kept a b g outer parent (child + 1) n more em le h
  places_kept a b g outer parent child n (place name t more) e le h =
      let et : t ≡ numbered n t = cc in
      let em : more ≡ numbered_places parent (child + 1) (n + count t) more = cc in
      (nested_kept a b g outer n t et (omega arith) h.0, places_kept a b g outer parent (child + 1) (n + count t) more em (omega arith) h.1)

-- a node that was given the next number, and its slots
pub node_nested : (t : Syntax) (kind : Kind) (scalars : List Scalar) (slots : Slots) (notes : Notes) (a b : List Span) (outer x : Span) (n : ℕ) → t ≡ node kind scalars slots notes (Some n)
    → n ≡ length a → Grows (a ++ x ∷ []) b → Lies outer x → SlotsNested b x slots → Nested b outer t
node_nested t kind scalars slots notes a b outer x n is e g l s =
    let w : span_of b (Some n) ≡ x = ap (λ z. span_of b (Some z)) e ∙ last_kept a b x g in
    subst (Nested b outer) (sym is) (subst (λ z. Lies outer z × SlotsNested b z slots) (sym w) (l, s))
