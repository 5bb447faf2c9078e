-- What a numbering keeps of a tree.
use Rattle.std.proofs.Common.{◌≡◌, ◌+◌, ℕ, List, Some, None, length, refl, sym, ◌∙◌, ap, arith}
use Rattle.std.proofs.lemmas.List.{length-append}
use Rattle.tree_core.specs.declared.span.Span.{Span}
use Rattle.tree_core.specs.Syntax.{Syntax, node, Slots, no_slots, slot, Places, no_places, hole, place}
use Rattle.tree_core.specs.Bare.{bare, bare_slots, bare_places}
use Rattle.first_grammar.specs.Numbers.{count, slots_count, places_count, places_length, name_of, numbered, numbered_slots, numbered_places, spans_of, slots_spans, places_spans}

-- there are as many spans as nodes
mutual
  pub spans_count : (spans : List Span) (x : Syntax) → length (spans_of spans x) ≡ count x
  spans_count spans (node kind scalars slots notes from) = omega (arith, slots_spans_count spans slots)

  pub slots_spans_count : (spans : List Span) (slots : Slots) → length (slots_spans spans slots) ≡ slots_count slots
  slots_spans_count spans no_slots = refl
  slots_spans_count spans (slot list places more) = omega (arith, length-append (places_spans spans places) (slots_spans spans more), places_spans_count spans places, slots_spans_count spans more)

  pub places_spans_count : (spans : List Span) (places : Places) → length (places_spans spans places) ≡ places_count places
  places_spans_count spans no_places = refl
  places_spans_count spans (hole name more) = places_spans_count spans more
  places_spans_count spans (place name x more) = omega (arith, length-append (spans_of spans x) (places_spans spans more), spans_count spans x, places_spans_count spans more)

-- numbers and names are no part of a bare tree
mutual
  pub numbered_bare : (n : ℕ) (x : Syntax) → bare (numbered n x) ≡ bare x
  numbered_bare n (node kind scalars slots notes from) = ap (λ z. node kind scalars z notes None) (numbered_slots_bare n 0 (n + 1) slots)

  numbered_slots_bare : (parent child n : ℕ) (slots : Slots) → bare_slots (numbered_slots parent child n slots) ≡ bare_slots slots
  numbered_slots_bare parent child n no_slots = refl
  numbered_slots_bare parent child n (slot list places more) =
      ap (λ z. slot list z (bare_slots (numbered_slots parent (child + places_length places) (n + places_count places) more))) (numbered_places_bare parent child n places)
      ∙ ap (λ z. slot list (bare_places places) z) (numbered_slots_bare parent (child + places_length places) (n + places_count places) more)

  numbered_places_bare : (parent child n : ℕ) (places : Places) → bare_places (numbered_places parent child n places) ≡ bare_places places
  numbered_places_bare parent child n no_places = refl
  numbered_places_bare parent child n (hole name more) = ap (λ z. hole None z) (numbered_places_bare parent (child + 1) n more)
  numbered_places_bare parent child n (place name x more) =
      ap (λ z. place None z (bare_places (numbered_places parent (child + 1) (n + count x) more))) (numbered_bare n x) ∙ ap (λ z. place None (bare x) z) (numbered_places_bare parent (child + 1) (n + count x) more)

-- what depends on the bare tree alone
mutual
  count_bare : (x : Syntax) → count (bare x) ≡ count x
  count_bare (node kind scalars slots notes from) = ap (λ z. 1 + z) (slots_count_bare slots)

  slots_count_bare : (slots : Slots) → slots_count (bare_slots slots) ≡ slots_count slots
  slots_count_bare no_slots = refl
  slots_count_bare (slot list places more) = omega (arith, places_count_bare places, slots_count_bare more)

  places_count_bare : (places : Places) → places_count (bare_places places) ≡ places_count places
  places_count_bare no_places = refl
  places_count_bare (hole name more) = places_count_bare more
  places_count_bare (place name x more) = omega (arith, count_bare x, places_count_bare more)

places_length_bare : (places : Places) → places_length (bare_places places) ≡ places_length places
places_length_bare no_places = refl
places_length_bare (hole name more) = ap (λ z. 1 + z) (places_length_bare more)
places_length_bare (place name x more) = ap (λ z. 1 + z) (places_length_bare more)

pub count_numbered : (n : ℕ) (x : Syntax) → count (numbered n x) ≡ count x
count_numbered n x = sym (count_bare (numbered n x)) ∙ ap count (numbered_bare n x) ∙ count_bare x

mutual
  bare_numbered : (n : ℕ) (x : Syntax) → numbered n (bare x) ≡ numbered n x
  bare_numbered n (node kind scalars slots notes from) = ap (λ z. node kind scalars z notes (Some n)) (bare_slots_numbered n 0 (n + 1) slots)

  bare_slots_numbered : (parent child n : ℕ) (slots : Slots) → numbered_slots parent child n (bare_slots slots) ≡ numbered_slots parent child n slots
  bare_slots_numbered parent child n no_slots = refl
  bare_slots_numbered parent child n (slot list places more) =
      let on : ℕ = child + places_length places in
      let after : ℕ = n + places_count places in
      ap (λ z. slot list z (numbered_slots parent (child + places_length (bare_places places)) (n + places_count (bare_places places)) (bare_slots more))) (bare_places_numbered parent child n places)
      ∙ ap (λ z. slot list (numbered_places parent child n places) (numbered_slots parent (child + z) (n + places_count (bare_places places)) (bare_slots more))) (places_length_bare places)
      ∙ ap (λ z. slot list (numbered_places parent child n places) (numbered_slots parent on (n + z) (bare_slots more))) (places_count_bare places)
      ∙ ap (λ z. slot list (numbered_places parent child n places) z) (bare_slots_numbered parent on after more)

  bare_places_numbered : (parent child n : ℕ) (places : Places) → numbered_places parent child n (bare_places places) ≡ numbered_places parent child n places
  bare_places_numbered parent child n no_places = refl
  bare_places_numbered parent child n (hole name more) = ap (λ z. hole (name_of parent child) z) (bare_places_numbered parent (child + 1) n more)
  bare_places_numbered parent child n (place name x more) =
      ap (λ z. place (name_of parent child) z (numbered_places parent (child + 1) (n + count (bare x)) (bare_places more))) (bare_numbered n x)
      ∙ ap (λ z. place (name_of parent child) (numbered n x) (numbered_places parent (child + 1) (n + z) (bare_places more))) (count_bare x)
      ∙ ap (λ z. place (name_of parent child) (numbered n x) z) (bare_places_numbered parent (child + 1) (n + count x) more)

-- numbered again, it is the same
pub numbered_again : (n : ℕ) (x : Syntax) → numbered n (numbered n x) ≡ numbered n x
numbered_again n x = sym (bare_numbered n (numbered n x)) ∙ ap (numbered n) (numbered_bare n x) ∙ bare_numbered n x
