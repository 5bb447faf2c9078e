-- What is left of a list of slots or places while they are walked.
use Rattle.std.proofs.Common.{ℕ, List, map}
use Rattle.tree_core.specs.declared.span.Span.{Span}
use Rattle.tree_core.specs.declared.tree.Slot.{Slot}
use Rattle.tree_core.specs.declared.tree.Place.{Place}
use Rattle.tree_core.specs.View.{slot_view, place_view, slots_of, places_of}
use Rattle.first_rename.specs.Names.{count_slots, count_places}
use Rattle.first_rename.specs.Edits.{slot_edits, place_edits}

abbrev pub slots_counted : List ℕ → List Slot → ℕ
slots_counted name slots = count_slots name (slots_of (map slot_view slots))

abbrev pub places_counted : List ℕ → List Place → ℕ
places_counted name places = count_places name (places_of (map place_view places))

abbrev pub edits_in_slots : List ℕ → List Span → List Slot → List Span
edits_in_slots name spans slots = slot_edits name spans (slots_of (map slot_view slots))

abbrev pub edits_in_places : List ℕ → List Span → List Place → List Span
edits_in_places name spans places = place_edits name spans (places_of (map place_view places))
