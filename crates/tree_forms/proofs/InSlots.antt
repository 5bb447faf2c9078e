-- What stands first in a slot.
use Rattle.std.proofs.Common.{◌≡◌, ℕ, zero, suc, List, [], ◌∷◌, map, slice_get, Some, None, refl, ◌∙◌}
use Rattle.tree_core.specs.declared.tree.Slot.{Slot}
use Rattle.tree_core.specs.declared.tree.Place.{Place}
use Rattle.tree_core.specs.View.{Spot, slot_view, place_view, slots_of, places_of}
use Rattle.tree_forms.specs.Reading.{child_in, second_in, second_place}
use Rattle.spelling_rules.specs.Shapes.{first_place}

pub in_slot : (slots : List Slot) (n : ℕ) (s : Slot) → slice_get slots n ≡ Some s → child_in n (slots_of (map slot_view slots)) ≡ first_place (slot_view s).1
in_slot [] n s e = absurd cc
in_slot (x ∷ xs) zero s e = cc
in_slot (x ∷ xs) (suc n) s e = in_slot xs n s e

pub past_slots : (slots : List Slot) (n : ℕ) → slice_get slots n ≡ None → child_in n (slots_of (map slot_view slots)) ≡ None
past_slots [] n e = refl
past_slots (x ∷ xs) zero e = absurd cc
past_slots (x ∷ xs) (suc n) e = past_slots xs n e

pub first_spot : (p : Spot) (more : List Spot) → first_place (places_of (p ∷ more)) ≡ p.1
first_spot (name, None) more = refl
first_spot (name, Some t) more = refl

pub first_of : (places : List Place) (p : Place) → slice_get places 0 ≡ Some p → first_place (places_of (map place_view places)) ≡ (place_view p).1
first_of [] p e = absurd cc
first_of (x ∷ xs) p e = let f = first_spot (place_view x) (map place_view xs) in cc

pub first_of_none : (places : List Place) → slice_get places 0 ≡ None → first_place (places_of (map place_view places)) ≡ None
first_of_none [] e = refl
first_of_none (x ∷ xs) e = absurd cc

second_spot : (p : Spot) (more : List Spot) → second_place (places_of (p ∷ more)) ≡ first_place (places_of more)
second_spot (name, None) more = refl
second_spot (name, Some t) more = refl

pub second_alone : (p : Spot) → second_place (places_of (p ∷ [])) ≡ None
second_alone (name, None) = refl
second_alone (name, Some t) = refl

pub second_of : (places : List Place) (p : Place) → slice_get places 1 ≡ Some p → second_place (places_of (map place_view places)) ≡ (place_view p).1
second_of [] p e = absurd cc
second_of (x ∷ xs) p e = second_spot (place_view x) (map place_view xs) ∙ first_of xs p e

pub second_of_none : (places : List Place) → slice_get places 1 ≡ None → second_place (places_of (map place_view places)) ≡ None
second_of_none [] e = refl
second_of_none (x ∷ xs) e = second_spot (place_view x) (map place_view xs) ∙ first_of_none xs e

pub second_in_slot : (slots : List Slot) (n : ℕ) (s : Slot) → slice_get slots n ≡ Some s → second_in n (slots_of (map slot_view slots)) ≡ second_place (slot_view s).1
second_in_slot [] n s e = absurd cc
second_in_slot (x ∷ xs) zero s e = cc
second_in_slot (x ∷ xs) (suc n) s e = second_in_slot xs n s e

pub second_past_slots : (slots : List Slot) (n : ℕ) → slice_get slots n ≡ None → second_in n (slots_of (map slot_view slots)) ≡ None
second_past_slots [] n e = refl
second_past_slots (x ∷ xs) zero e = absurd cc
second_past_slots (x ∷ xs) (suc n) e = second_past_slots xs n e
