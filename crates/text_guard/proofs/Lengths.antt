-- Lists of slots and of places that are the same are equally long.
use Rattle.std.proofs.Common.{◌≡◌, suc, List, [], ◌∷◌, length, map, Some, None, refl, sym, ap, ◌∙◌}
use Rattle.std.proofs.lemmas.List.{length-map}
use Rattle.text_guard.specs.Plain.{plain_slots, plain_places}
use Rattle.tree_core.specs.Syntax.{Slots, Places}
use Rattle.tree_core.specs.View.{Spot, Row, slot_view, place_view, slots_of, places_of}
use Rattle.tree_core.specs.declared.tree.Place.{Place}
use Rattle.tree_core.specs.declared.tree.Slot.{Slot}

-- what is compared of slots and of places
abbrev pub compared_slots : List Slot → Slots
compared_slots slots = plain_slots (slots_of (map slot_view slots))

abbrev pub compared_places : List Place → Places
compared_places places = plain_places (places_of (map place_view places))

rows_length : (xs ys : List Row) → plain_slots (slots_of xs) ≡ plain_slots (slots_of ys) → length xs ≡ length ys
rows_length [] [] e = refl
rows_length [] (y ∷ ys) e = cc
rows_length (x ∷ xs) [] e = cc
rows_length (x ∷ xs) (y ∷ ys) e = ap suc (rows_length xs ys cc)

spots_length : (xs ys : List Spot) → plain_places (places_of xs) ≡ plain_places (places_of ys) → length xs ≡ length ys
spots_length [] [] e = refl
spots_length [] ((n, None) ∷ ys) e = cc
spots_length [] ((n, Some t) ∷ ys) e = cc
spots_length ((m, None) ∷ xs) [] e = cc
spots_length ((m, Some s) ∷ xs) [] e = cc
spots_length ((m, None) ∷ xs) ((n, None) ∷ ys) e = ap suc (spots_length xs ys cc)
spots_length ((m, None) ∷ xs) ((n, Some t) ∷ ys) e = cc
spots_length ((m, Some s) ∷ xs) ((n, None) ∷ ys) e = cc
spots_length ((m, Some s) ∷ xs) ((n, Some t) ∷ ys) e = ap suc (spots_length xs ys cc)

pub places_length : (xs ys : List Place) → compared_places xs ≡ compared_places ys → length xs ≡ length ys
places_length xs ys e = sym (length-map xs place_view) ∙ (spots_length (map place_view xs) (map place_view ys) e ∙ length-map ys place_view)

pub slots_length : (xs ys : List Slot) → compared_slots xs ≡ compared_slots ys → length xs ≡ length ys
slots_length xs ys e = sym (length-map xs slot_view) ∙ (rows_length (map slot_view xs) (map slot_view ys) e ∙ length-map ys slot_view)
