-- What is left of a list of slots or places while they are walked.
use Rattle.std.proofs.Common.{ℕ, List, map, Option}
use Rattle.js_tokens.specs.declared.word.Word.{Word}
use Rattle.tree_core.specs.declared.span.Span.{Span}
use Rattle.tree_core.specs.declared.tree.Slot.{Slot}
use Rattle.tree_core.specs.declared.tree.Place.{Place}
use Rattle.tree_core.specs.View.{slot_view, place_view, slots_of, places_of}
use Rattle.source_rename.specs.declared.edits.Edit.{Edit}
use Rattle.source_rename.specs.declared.places.Seat.{Seat}
use Rattle.source_rename.specs.Edits.{slot_edits, place_edits}
use Rattle.source_rename.specs.Methods.{bad_slots, bad_places, behind}

abbrev pub edits_in_slots : List ℕ → List Span → List ℕ → Word → Seat → List Slot → List Edit
edits_in_slots s spans old word seat slots = slot_edits s spans old word seat (slots_of (map slot_view slots))

abbrev pub edits_in_places : List ℕ → List Span → List ℕ → Word → Seat → List Place → List Edit
edits_in_places s spans old word seat places = place_edits s spans old word seat (places_of (map place_view places))

abbrev pub bad_in_slots : List ℕ → List ℕ → ℕ → List Slot → Option (List ℕ)
bad_in_slots old new n slots = bad_slots old new n (slots_of (map slot_view slots))

abbrev pub bad_in_places : List ℕ → List ℕ → ℕ → List Place → Option (List ℕ)
bad_in_places old new n places = bad_places old new n (places_of (map place_view places))

abbrev pub behind_places : ℕ → List Place → ℕ
behind_places n places = behind n (places_of (map place_view places))
