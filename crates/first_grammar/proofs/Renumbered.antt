-- A tree that is numbered anew is spelled as before, with the spans in the order of the new numbers.
use Rattle.std.proofs.Common.{◌≡◌, ◌+◌, ℕ, true, false, List, [], ◌∷◌, ◌++◌, Option, Some, None, length, refl, sym, ◌∙◌, ap, subst, arith, append_assoc, append-nil}
use Rattle.std.specs.Prelude.{slice_get, unwrap_or}
use Rattle.std.proofs.lemmas.List.{length-append}
use Rattle.tree_core.specs.declared.span.Span.{Span}
use Rattle.tree_core.specs.declared.scalars.Scalar.{Scalar}
use Rattle.tree_core.specs.Syntax.{Syntax, node, Slots, slot, Places, no_places, place}
use Rattle.tree_core.specs.View.{Spot, Row, slots_of, places_of}
use Rattle.first_grammar.specs.declared.table.Kind.{Kind}
use Rattle.first_grammar.specs.declared.table.Category.{Category}
use Rattle.first_grammar.specs.declared.table.Part.{Part}
use Rattle.first_grammar.specs.Table.{node_kind, fixed}
use Rattle.first_grammar.specs.Spells.{Spells, Node, Fills, Listed, InRow, formed, built, no_parts, a_token, a_name, free_name, a_child, empty_list, a_list, a_body, last, more, row_end, row_next, bare_notes, one, all, At, HasSpan, Whole}
use Rattle.first_grammar.specs.Numbers.{count, places_count, places_length, name_of, numbered, numbered_slots, numbered_places, span_of, nowhere, spans_of, slots_spans, places_spans}
use Rattle.first_grammar.proofs.Passed.{get_seam}
use Rattle.first_grammar.proofs.Numberings.{spans_count, places_spans_count}

-- these spans stand in z from n on
record Lies (z : List Span) (n : ℕ) (xs : List Span) : Type 0 where
  before : List Span
  after : List Span
  is : z ≡ before ++ (xs ++ after)
  long : length before ≡ n

lies_first : (z : List Span) (n : ℕ) (x : Span) (xs : List Span) → Lies z n (x ∷ xs) → slice_get z n ≡ Some x
lies_first z n x xs h = subst (λ v. slice_get v n ≡ Some x) (sym h.is) (subst (λ m. slice_get (h.before ++ x ∷ (xs ++ h.after)) m ≡ Some x) h.long (get_seam h.before x (xs ++ h.after)))

lies_left : (z : List Span) (n : ℕ) (xs ys : List Span) → Lies z n (xs ++ ys) → Lies z n xs
lies_left z n xs ys h = record { before = h.before; after = ys ++ h.after; is = h.is ∙ ap (λ v. h.before ++ v) (append_assoc xs ys h.after); long = h.long }

lies_right : (z : List Span) (n m : ℕ) (xs ys : List Span) → length xs ≡ m → Lies z n (xs ++ ys) → Lies z (n + m) ys
lies_right z n m xs ys e h =
    record {
      before = h.before ++ xs;
      after = h.after;
      is = h.is ∙ ap (λ v. h.before ++ v) (append_assoc xs ys h.after) ∙ sym (append_assoc h.before xs (ys ++ h.after));
      long = omega (arith, length-append h.before xs, h.long, e);
    }

named_span : (old : List Span) (from : Option ℕ) (i j : ℕ) → HasSpan old from i j → span_of old from ≡ record { start = i; end = j }
named_span old None i j h = absurd h
named_span old (Some k) i j h = ap (λ o. unwrap_or o nowhere) h

module _ (s : List ℕ) (old z : List Span) where
  -- slots and lists with new names and numbers
  abbrev NewRows : List Part → ℕ → ℕ → List Scalar → Slots → Type 0
  NewRows qs i j scalars slots = (rows : List Row) × (slots_of rows ≡ slots) × Fills (At z) s qs i j scalars rows

  abbrev NewList : Category → ℕ → ℕ → ℕ → Places → Type 0
  NewList c l i j places = (xs : List Spot) × (places_of xs ≡ places) × Listed (At z) s c l i j xs

  abbrev NewRow : Category → ℕ → ℕ → Places → Type 0
  NewRow c i j places = (xs : List Spot) × (places_of xs ≡ places) × InRow (At z) s c i j xs

  mutual
    spells : (i j : ℕ) (c : Category) (l : ℕ) (x : Syntax) (n : ℕ) → Lies z n (spans_of old x) → Spells (At old) s i j c l x → Spells (At z) s i j c l (numbered n x)
    spells _ _ _ _ _ n lies (formed i j c l x kind there high h) = formed i j c l (numbered n x) kind there high (whole_node kind i j x n lies h)

    whole_node : (kind : Kind) (i j : ℕ) (x : Syntax) (n : ℕ) → Lies z n (spans_of old x) → Node (At old) s kind i j x → Node (At z) s kind i j (numbered n x)
    whole_node _ _ _ _ n lies (built kind i j scalars rows from begins h said) =
        let new = fills _ i j scalars rows n 0 (n + 1) (lies_right z n 1 (span_of old from ∷ []) (slots_spans old (slots_of rows)) refl lies) h in
        let has : HasSpan z (Some n) i j = lies_first z n _ _ lies ∙ ap Some (named_span old from i j said) in
        subst (λ v. Node (At z) s kind i j (node (node_kind kind) (fixed kind ++ scalars) v bare_notes (Some n))) new.1 (built kind i j scalars new.0 (Some n) begins new.2 has)

    fills : (qs : List Part) (i j : ℕ) (scalars : List Scalar) (rows : List Row) (parent child n : ℕ) → Lies z n (slots_spans old (slots_of rows)) → Fills (At old) s qs i j scalars rows
        → NewRows qs i j scalars (numbered_slots parent child n (slots_of rows))
    fills _ _ _ _ _ parent child n lies (no_parts i) = ([], refl, no_parts i)
    fills _ _ _ _ _ parent child n lies (a_token word qs i b e j scalars rows scan h) =
        let new = fills qs e j scalars rows parent child n lies h in
        (new.0, new.1, a_token word qs i b e j scalars new.0 scan new.2)
    fills _ _ _ _ _ parent child n lies (a_name qs i b e j scalars rows scan h) =
        let new = fills qs e j scalars rows parent child n lies h in
        (new.0, new.1, a_name qs i b e j scalars new.0 scan new.2)
    fills _ _ _ _ _ parent child n lies (free_name word qs i b e j scalars rows is scan h) =
        let new = fills qs e j scalars rows parent child n lies h in
        (new.0, new.1, free_name word qs i b e j scalars new.0 is scan new.2)
    fills _ _ _ _ _ parent child n lies (a_child c l qs i b e j name x scalars rows blank g h) =
        let there = lies_left z n (places_spans old (place name x no_places)) (slots_spans old (slots_of rows)) lies in
        let rest = lies_right z n _ (places_spans old (place name x no_places)) (slots_spans old (slots_of rows)) (places_spans_count old (place name x no_places)) lies in
        let y = spells b e c l x n (lies_left z n (spans_of old x) [] there) g in
        let new = fills qs e j scalars rows parent (child + 1) (n + (count x + 0)) rest h in
        (one (name_of parent child) (numbered n x) ∷ new.0, ap (λ v. slot false (place (name_of parent child) (numbered n x) no_places) v) new.1, a_child c l qs i b e j (name_of parent child) (numbered n x) scalars new.0 blank y new.2)
    fills _ _ _ _ _ parent child n lies (empty_list c l close qs i j scalars rows h) =
        let new = fills qs i j scalars rows parent (child + 0) (n + 0) (lies_right z n 0 [] (slots_spans old (slots_of rows)) refl lies) h in
        (all [] ∷ new.0, ap (λ v. slot true no_places v) new.1, empty_list c l close qs i j scalars new.0 new.2)
    fills _ _ _ _ _ parent child n lies (a_list c l close qs i e j xs scalars rows g h) =
        let there = lies_left z n (places_spans old (places_of xs)) (slots_spans old (slots_of rows)) lies in
        let rest = lies_right z n _ (places_spans old (places_of xs)) (slots_spans old (slots_of rows)) (places_spans_count old (places_of xs)) lies in
        let ys = listed c l i e xs parent child n there g in
        let new = fills qs e j scalars rows parent (child + places_length (places_of xs)) (n + places_count (places_of xs)) rest h in (
          all ys.0 ∷ new.0,
          ap (λ v. slot true v (slots_of new.0)) ys.1 ∙ ap (λ v. slot true (numbered_places parent child n (places_of xs)) v) new.1,
          a_list c l close qs i e j ys.0 scalars new.0 ys.2 new.2,
        )
    fills _ _ _ _ _ parent child n lies (a_body c close qs i e j xs scalars rows g h) =
        let there = lies_left z n (places_spans old (places_of xs)) (slots_spans old (slots_of rows)) lies in
        let rest = lies_right z n _ (places_spans old (places_of xs)) (slots_spans old (slots_of rows)) (places_spans_count old (places_of xs)) lies in
        let ys = in_row c i e xs parent child n there g in
        let new = fills qs e j scalars rows parent (child + places_length (places_of xs)) (n + places_count (places_of xs)) rest h in (
          all ys.0 ∷ new.0,
          ap (λ v. slot true v (slots_of new.0)) ys.1 ∙ ap (λ v. slot true (numbered_places parent child n (places_of xs)) v) new.1,
          a_body c close qs i e j ys.0 scalars new.0 ys.2 new.2,
        )

    listed : (c : Category) (l i j : ℕ) (xs : List Spot) (parent child n : ℕ) → Lies z n (places_spans old (places_of xs)) → Listed (At old) s c l i j xs → NewList c l i j (numbered_places parent child n (places_of xs))
    listed _ _ _ _ _ parent child n lies (last c l i b e name x blank g) =
        let y = spells b e c l x n (lies_left z n (spans_of old x) [] lies) g in
        ((name_of parent child, Some (numbered n x)) ∷ [], refl, last c l i b e (name_of parent child) (numbered n x) blank y)
    listed _ _ _ _ _ parent child n lies (more c l i b e b' e' j name x xs blank g scan h) =
        let y = spells b e c l x n (lies_left z n (spans_of old x) (places_spans old (places_of xs)) lies) g in
        let ys = listed c l e' j xs parent (child + 1) (n + count x) (lies_right z n _ (spans_of old x) (places_spans old (places_of xs)) (spans_count old x) lies) h in
        ((name_of parent child, Some (numbered n x)) ∷ ys.0, ap (λ v. place (name_of parent child) (numbered n x) v) ys.1, more c l i b e b' e' j (name_of parent child) (numbered n x) ys.0 blank y scan ys.2)

    in_row : (c : Category) (i j : ℕ) (xs : List Spot) (parent child n : ℕ) → Lies z n (places_spans old (places_of xs)) → InRow (At old) s c i j xs → NewRow c i j (numbered_places parent child n (places_of xs))
    in_row _ _ _ _ parent child n lies (row_end c i) = ([], refl, row_end c i)
    in_row _ _ _ _ parent child n lies (row_next c i b e j name x xs blank g h) =
        let y = spells b e c 1 x n (lies_left z n (spans_of old x) (places_spans old (places_of xs)) lies) g in
        let ys = in_row c e j xs parent (child + 1) (n + count x) (lies_right z n _ (spans_of old x) (places_spans old (places_of xs)) (spans_count old x) lies) h in
        ((name_of parent child, Some (numbered n x)) ∷ ys.0, ap (λ v. place (name_of parent child) (numbered n x) v) ys.1, row_next c i b e j (name_of parent child) (numbered n x) ys.0 blank y ys.2)

pub spelled_anew : (s : List ℕ) (old : List Span) (x : Syntax) → Whole (At old) s x → Whole (At (spans_of old x)) s (numbered 0 x)
spelled_anew s old x h = spells s old (spans_of old x) 0 (length s) _ 1 x 0 (record { before = []; after = []; is = sym (append-nil (spans_of old x)); long = refl }) h
