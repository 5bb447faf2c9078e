-- What is left of the places and slots of a node while they are walked.
use Rattle.std.proofs.Common.{ℕ, List, map, Option}
use Rattle.tree_core.specs.declared.tree.Slot.{Slot}
use Rattle.tree_core.specs.declared.tree.Place.{Place}
use Rattle.tree_core.specs.View.{slot_view, place_view, slots_of, places_of}
use Rattle.js_forms.specs.declared.category.Category.{Category}
use Rattle.tree_forms.specs.declared.variant.Variant.{Variant}
use Rattle.comment_places.specs.Children.{Kid, in_places, in_slots, behind}

abbrev pub kids_in_places : ℕ → Category → ℕ → List Place → List Kid
kids_in_places slot category n places = in_places slot category n (places_of (map place_view places))

abbrev pub behind_places : ℕ → List Place → ℕ
behind_places n places = behind n (places_of (map place_view places))

abbrev pub kids_in_slots : Option Variant → ℕ → ℕ → List Slot → List Kid
kids_in_slots v at n slots = in_slots v at n (slots_of (map slot_view slots))
