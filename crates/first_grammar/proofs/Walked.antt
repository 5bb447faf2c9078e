-- How far a walk over slots or places has come that numbers them in their order.
use Rattle.std.proofs.Common.{◌≡◌, ◌≤◌, ◌+◌, ℕ, List, [], ◌∷◌, ◌++◌, Some, None, map, length, reverse, refl, sym, ◌∙◌, ap, subst, arith, append_assoc, append-nil}
use Rattle.std.proofs.lemmas.List.{length-append, map-append, reverse-append}
use Rattle.tree_core.specs.declared.span.Span.{Span}
use Rattle.tree_core.specs.declared.tree.Place.{Place}
use Rattle.tree_core.specs.declared.tree.Slot.{Slot}
use Rattle.tree_core.specs.Syntax.{Slots, no_slots, slot, Places, no_places, hole}
use Rattle.tree_core.specs.View.{Spot, Row, spot, slots_of, places_of, slot_view, place_view}
use Rattle.first_grammar.specs.Numbers.{slots_count, places_count, places_length, numbered_slots, numbered_places, slots_spans, places_spans, numbered_spot, spot_spans, spot_count, name_of}
use Rattle.first_grammar.proofs.Numberings.{places_spans_count, spans_count}

-- items that wait in the other order
pub next_waiting : {X : Type 0} (waiting rest : List X) (x : X) → waiting ≡ rest ++ x ∷ [] → reverse waiting ≡ x ∷ reverse rest
next_waiting waiting rest x e = ap reverse e ∙ reverse-append rest (x ∷ [])

abbrev pub all_slots : List Slot → Slots
all_slots slots = slots_of (map slot_view slots)

abbrev pub all_places : List Place → Places
all_places places = places_of (map place_view places)

abbrev slots_before : List Row → Slots → Slots
slots_before [] more = more
slots_before (row ∷ rows) more = slot row.0 row.1 (slots_before rows more)

abbrev places_before : List Spot → Places → Places
places_before [] more = more
places_before (x ∷ xs) more = spot x (places_before xs more)

slots_before_none : (rows : List Row) → slots_before rows no_slots ≡ slots_of rows
slots_before_none [] = refl
slots_before_none (row ∷ rows) = ap (λ z. slot row.0 row.1 z) (slots_before_none rows)

places_before_none : (xs : List Spot) → places_before xs no_places ≡ places_of xs
places_before_none [] = refl
places_before_none (x ∷ xs) = ap (spot x) (places_before_none xs)

slots_before_one : (rows : List Row) (row : Row) (more : Slots) → slots_before (rows ++ row ∷ []) more ≡ slots_before rows (slot row.0 row.1 more)
slots_before_one [] row more = refl
slots_before_one (first ∷ rows) row more = ap (λ z. slot first.0 first.1 z) (slots_before_one rows row more)

places_before_one : (xs : List Spot) (x : Spot) (more : Places) → places_before (xs ++ x ∷ []) more ≡ places_before xs (spot x more)
places_before_one [] x more = refl
places_before_one (first ∷ xs) x more = ap (spot first) (places_before_one xs x more)

-- a place in front

pub first_numbered : (node child n : ℕ) (x : Spot) (more : Places)
    → numbered_places node child n (spot x more) ≡ spot (numbered_spot (name_of node child) n x) (numbered_places node (child + 1) (n + spot_count x) more)
first_numbered node child n (was, None) more = ap (λ z. hole (name_of node child) (numbered_places node (child + 1) z more)) (let same : n ≡ n + 0 = omega arith in same)
first_numbered node child n (was, Some x) more = refl

pub first_spans : (spans : List Span) (x : Spot) (more : Places) → places_spans spans (spot x more) ≡ spot_spans spans x ++ places_spans spans more
first_spans spans (was, None) more = refl
first_spans spans (was, Some x) more = refl

pub first_length : (x : Spot) (more : Places) → places_length (spot x more) ≡ 1 + places_length more
first_length (was, None) more = refl
first_length (was, Some x) more = refl

pub first_count : (x : Spot) (more : Places) → places_count (spot x more) ≡ spot_count x + places_count more
first_count (was, None) more = omega arith
first_count (was, Some x) more = refl

pub spot_spans_count : (spans : List Span) (x : Spot) → length (spot_spans spans x) ≡ spot_count x
spot_spans_count spans (was, None) = refl
spot_spans_count spans (was, Some x) = spans_count spans x

-- the slots of a node: those that wait, those that are done, the next child, and the spans of the numbers that are given
pub record SlotsWalked (spans : List Span) (node : ℕ) (slots : List Slot) (start : List Span) (waiting done : List Slot) (child : ℕ) (given : List Span) : Type 0 where
  pub named : numbered_slots node 0 (length start) (all_slots slots) ≡ slots_before (map slot_view done) (numbered_slots node child (length given) (all_slots (reverse waiting)))
  pub spans_are : start ++ slots_spans spans (all_slots slots) ≡ given ++ slots_spans spans (all_slots (reverse waiting))
  pub fewer : slots_count (all_slots (reverse waiting)) ≤ slots_count (all_slots slots)

pub slots_begin : (spans : List Span) (node : ℕ) (slots waiting : List Slot) (start : List Span) → reverse waiting ≡ slots → SlotsWalked spans node slots start waiting [] 0 start
slots_begin spans node slots waiting start e = subst (λ z. SlotsWalked spans node z start waiting [] 0 start) e (record { named = refl; spans_are = refl; fewer = omega arith })

pub slots_next : (spans : List Span) (node : ℕ) (slots : List Slot) (start : List Span) (waiting rest done more : List Slot) (s new : Slot) (child next : ℕ) (given grown : List Span)
    → SlotsWalked spans node slots start waiting done child given → waiting ≡ rest ++ s ∷ [] → slot_view new ≡ ((slot_view s).0, numbered_places node child (length given) (slot_view s).1)
    → next ≡ child + places_length (slot_view s).1 → grown ≡ given ++ places_spans spans (slot_view s).1 → more ≡ done ++ new ∷ [] → SlotsWalked spans node slots start rest more next grown
slots_next spans node slots start waiting rest done more s new child next given grown w wait view after grows add =
    let row : Row = slot_view s in
    let todo : all_slots (reverse waiting) ≡ slot row.0 row.1 (all_slots (reverse rest)) = ap all_slots (next_waiting waiting rest s wait) in
    let long : length grown ≡ length given + places_count row.1 = omega (arith, ap length grows, length-append given (places_spans spans row.1), places_spans_count spans row.1) in
    let is_done : map slot_view more ≡ map slot_view done ++ (row.0, numbered_places node child (length given) row.1) ∷ [] =
    ap (map slot_view) add ∙ map-append slot_view done (new ∷ []) ∙ ap (λ z. map slot_view done ++ z ∷ []) view in
    let ahead : slots_before (map slot_view more) (numbered_slots node next (length grown) (all_slots (reverse rest)))
    ≡ slots_before (map slot_view done) (numbered_slots node child (length given) (slot row.0 row.1 (all_slots (reverse rest)))) =
    ap (λ z. slots_before z (numbered_slots node next (length grown) (all_slots (reverse rest)))) is_done
    ∙ ap (λ z. slots_before (map slot_view done ++ (row.0, numbered_places node child (length given) row.1) ∷ []) (numbered_slots node z (length grown) (all_slots (reverse rest)))) after
    ∙ ap (λ z. slots_before (map slot_view done ++ (row.0, numbered_places node child (length given) row.1) ∷ []) (numbered_slots node (child + places_length row.1) z (all_slots (reverse rest)))) long
    ∙ slots_before_one (map slot_view done) (row.0, numbered_places node child (length given) row.1) _ in
    record {
      named = w.named ∙ ap (λ z. slots_before (map slot_view done) (numbered_slots node child (length given) z)) todo ∙ sym ahead;
      spans_are = w.spans_are ∙ ap (λ z. given ++ slots_spans spans z) todo ∙ sym (append_assoc given (places_spans spans row.1) (slots_spans spans (all_slots (reverse rest)))) ∙ ap (λ z. z ++ slots_spans spans (all_slots (reverse rest))) (sym grows);
      fewer = omega (arith, w.fewer, ap slots_count todo);
    }

pub slots_named : (spans : List Span) (node : ℕ) (slots : List Slot) (start : List Span) (waiting done : List Slot) (child : ℕ) (given : List Span) → SlotsWalked spans node slots start waiting done child given → waiting ≡ []
    → all_slots done ≡ numbered_slots node 0 (length start) (all_slots slots)
slots_named spans node slots start waiting done child given w none =
    sym (w.named ∙ ap (λ z. slots_before (map slot_view done) (numbered_slots node child (length given) (all_slots (reverse z)))) none ∙ slots_before_none (map slot_view done))

pub slots_given : (spans : List Span) (node : ℕ) (slots : List Slot) (start : List Span) (waiting done : List Slot) (child : ℕ) (given : List Span) → SlotsWalked spans node slots start waiting done child given → waiting ≡ []
    → given ≡ start ++ slots_spans spans (all_slots slots)
slots_given spans node slots start waiting done child given w none = sym (w.spans_are ∙ ap (λ z. given ++ slots_spans spans (all_slots (reverse z))) none ∙ append-nil given)

-- no slot has more nodes than all
pub slot_fewer : (spans : List Span) (node : ℕ) (slots : List Slot) (start : List Span) (waiting rest done : List Slot) (s : Slot) (child : ℕ) (given : List Span) → SlotsWalked spans node slots start waiting done child given
    → waiting ≡ rest ++ s ∷ [] → places_count (slot_view s).1 ≤ slots_count (all_slots slots)
slot_fewer spans node slots start waiting rest done s child given w wait = omega (arith, w.fewer, ap (λ z. slots_count (all_slots z)) (next_waiting waiting rest s wait))

-- the places of a list
pub record PlacesWalked (spans : List Span) (node from : ℕ) (places : List Place) (start : List Span) (waiting done : List Place) (child : ℕ) (given : List Span) : Type 0 where
  pub named : numbered_places node from (length start) (all_places places) ≡ places_before (map place_view done) (numbered_places node child (length given) (all_places (reverse waiting)))
  pub spans_are : start ++ places_spans spans (all_places places) ≡ given ++ places_spans spans (all_places (reverse waiting))
  pub children : from + places_length (all_places places) ≡ child + places_length (all_places (reverse waiting))
  pub fewer : places_count (all_places (reverse waiting)) ≤ places_count (all_places places)

pub places_begin : (spans : List Span) (node from : ℕ) (places waiting : List Place) (start : List Span) → reverse waiting ≡ places → PlacesWalked spans node from places start waiting [] from start
places_begin spans node from places waiting start e =
    subst (λ z. PlacesWalked spans node from z start waiting [] from start) e (record { named = refl; spans_are = refl; children = refl; fewer = omega arith })

pub places_next : (spans : List Span) (node from : ℕ) (places : List Place) (start : List Span) (waiting rest done more : List Place) (p new : Place) (child next : ℕ) (given grown : List Span)
    → PlacesWalked spans node from places start waiting done child given → waiting ≡ rest ++ p ∷ [] → place_view new ≡ numbered_spot (name_of node child) (length given) (place_view p)
    → next ≡ child + 1 → grown ≡ given ++ spot_spans spans (place_view p) → more ≡ done ++ new ∷ [] → PlacesWalked spans node from places start rest more next grown
places_next spans node from places start waiting rest done more p new child next given grown w wait view after grows add =
    let x : Spot = place_view p in
    let y : Spot = numbered_spot (name_of node child) (length given) x in
    let others : Places = all_places (reverse rest) in
    let todo : all_places (reverse waiting) ≡ spot x others = ap all_places (next_waiting waiting rest p wait) in
    let long : length grown ≡ length given + spot_count x = omega (arith, ap length grows, length-append given (spot_spans spans x), spot_spans_count spans x) in
    let is_done : map place_view more ≡ map place_view done ++ y ∷ [] = ap (map place_view) add ∙ map-append place_view done (new ∷ []) ∙ ap (λ z. map place_view done ++ z ∷ []) view in
    let ahead : places_before (map place_view more) (numbered_places node next (length grown) others) ≡ places_before (map place_view done) (numbered_places node child (length given) (spot x others)) =
    ap (λ z. places_before z (numbered_places node next (length grown) others)) is_done
    ∙ ap (λ z. places_before (map place_view done ++ y ∷ []) (numbered_places node z (length grown) others)) after
    ∙ ap (λ z. places_before (map place_view done ++ y ∷ []) (numbered_places node (child + 1) z others)) long
    ∙ places_before_one (map place_view done) y _
    ∙ ap (places_before (map place_view done)) (sym (first_numbered node child (length given) x others)) in
    record {
      named = w.named ∙ ap (λ z. places_before (map place_view done) (numbered_places node child (length given) z)) todo ∙ sym ahead;
      spans_are =
          w.spans_are ∙ ap (λ z. given ++ places_spans spans z) todo ∙ ap (λ z. given ++ z) (first_spans spans x others) ∙ sym (append_assoc given (spot_spans spans x) (places_spans spans others))
          ∙ ap (λ z. z ++ places_spans spans others) (sym grows);
      children = omega (arith, w.children, ap places_length todo, first_length x others, after);
      fewer = omega (arith, w.fewer, ap places_count todo, first_count x others);
    }

pub places_named : (spans : List Span) (node from : ℕ) (places : List Place) (start : List Span) (waiting done : List Place) (child : ℕ) (given : List Span) → PlacesWalked spans node from places start waiting done child given
    → waiting ≡ [] → all_places done ≡ numbered_places node from (length start) (all_places places)
places_named spans node from places start waiting done child given w none =
    sym (w.named ∙ ap (λ z. places_before (map place_view done) (numbered_places node child (length given) (all_places (reverse z)))) none ∙ places_before_none (map place_view done))

pub places_given : (spans : List Span) (node from : ℕ) (places : List Place) (start : List Span) (waiting done : List Place) (child : ℕ) (given : List Span) → PlacesWalked spans node from places start waiting done child given
    → waiting ≡ [] → given ≡ start ++ places_spans spans (all_places places)
places_given spans node from places start waiting done child given w none = sym (w.spans_are ∙ ap (λ z. given ++ places_spans spans (all_places (reverse z))) none ∙ append-nil given)

pub places_children : (spans : List Span) (node from : ℕ) (places : List Place) (start : List Span) (waiting done : List Place) (child : ℕ) (given : List Span) → PlacesWalked spans node from places start waiting done child given
    → waiting ≡ [] → child ≡ from + places_length (all_places places)
places_children spans node from places start waiting done child given w none = omega (arith, w.children, ap (λ z. places_length (all_places (reverse z))) none)

pub place_fewer : (spans : List Span) (node from : ℕ) (places : List Place) (start : List Span) (waiting rest done : List Place) (p : Place) (child : ℕ) (given : List Span) → PlacesWalked spans node from places start waiting done child given
    → waiting ≡ rest ++ p ∷ [] → spot_count (place_view p) ≤ places_count (all_places places)
place_fewer spans node from places start waiting rest done p child given w wait =
    omega (arith, w.fewer, ap (λ z. places_count (all_places z)) (next_waiting waiting rest p wait), first_count (place_view p) (all_places (reverse rest)))
