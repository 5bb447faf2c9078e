-- The places of a slot, as a list and in the plain tree.
use Rattle.std.proofs.Common.{◌≡◌, ◌≢◌, ◌∙◌, sym, ℕ, zero, suc, List, [], ◌∷◌, length, map, slice_get, get_or, false, Some, None, refl, arith}
use Rattle.std.specs.Prelude.{◌==◌}
use Rattle.std.proofs.lemmas.Bool.{ne_eqb}
use Rattle.tree_core.specs.declared.tree.Slot.{Slot}
use Rattle.tree_core.specs.declared.tree.Place.{Place}
use Rattle.tree_core.specs.Syntax.{no_places}
use Rattle.tree_core.specs.View.{Spot, slot_view, place_view, slots_of, places_of}
use Rattle.tree_check.specs.Parts.{places_in, is_empty, is_parameter, has_one_parameter}

pub places_there : (slots : List Slot) (n : ℕ) (s : Slot) → slice_get slots n ≡ Some s → places_in n (slots_of (map slot_view slots)) ≡ (slot_view s).1
places_there [] n s e = absurd cc
places_there (x ∷ xs) zero s e = cc
places_there (x ∷ xs) (suc n) s e = places_there xs n s e

pub places_past : (slots : List Slot) (n : ℕ) → slice_get slots n ≡ None → places_in n (slots_of (map slot_view slots)) ≡ no_places
places_past [] n e = refl
places_past (x ∷ xs) zero e = absurd cc
places_past (x ∷ xs) (suc n) e = places_past xs n e

empty_spot : (p : Spot) (more : List Spot) → is_empty (places_of (p ∷ more)) ≡ false
empty_spot (name, None) more = refl
empty_spot (name, Some t) more = refl

pub empty_is : (ps : List Place) → is_empty (places_of (map place_view ps)) ≡ (length ps == 0)
empty_is [] = refl
empty_is (x ∷ xs) = empty_spot (place_view x) (map place_view xs) ∙ sym (ne_eqb (suc (length xs)) 0 (λ z. omega (arith, z)))

one_spot : (p : Spot) → has_one_parameter (places_of (p ∷ [])) ≡ is_parameter p
one_spot (name, None) = refl
one_spot (name, Some t) = refl

more_spots : (p q : Spot) (more : List Spot) → has_one_parameter (places_of (p ∷ q ∷ more)) ≡ false
more_spots (name, None) q more = refl
more_spots (name, Some t) q more = rw (empty_spot q more) refl

pub one_parameter : (ps : List Place) (p : Place) → length ps ≡ 1 → p ≡ get_or ps 0 p → has_one_parameter (places_of (map place_view ps)) ≡ is_parameter (place_view p)
one_parameter [] p h e = absurd (omega arith)
one_parameter (x ∷ []) p h e = let same : p ≡ x = e in rw same (one_spot (place_view x))
one_parameter (x ∷ y ∷ more) p h e = absurd (omega arith)

pub not_one : (ps : List Place) → length ps ≢ 1 → has_one_parameter (places_of (map place_view ps)) ≡ false
not_one [] h = refl
not_one (x ∷ []) h = absurd (h refl)
not_one (x ∷ y ∷ more) h = more_spots (place_view x) (place_view y) (map place_view more)
