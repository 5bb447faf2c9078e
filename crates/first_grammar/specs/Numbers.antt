-- The stretches of the nodes of a tree that is numbered in preorder, and what becomes of one place.
use Rattle.std.specs.Prelude.{ℕ, List, [], ◌∷◌, ◌++◌, Option, Some, None}
use Rattle.tree_core.specs.declared.span.Span.{Span}
use Rattle.tree_core.specs.declared.tree.PlaceName.{PlaceName}
use Rattle.tree_core.specs.Syntax.{Syntax, node, Slots, no_slots, slot, Places, no_places, hole, place}
use Rattle.tree_core.specs.View.{Spot}
pub use Rattle.tree_core.specs.Numbers.{count, slots_count, places_count, places_length, name_of, numbered, numbered_slots, numbered_places, nowhere, span_of}

abbrev mutual
  -- the stretches of the nodes in preorder
  pub spans_of : List Span → Syntax → List Span
  spans_of spans (node kind scalars slots notes from) = span_of spans from ∷ slots_spans spans slots

  pub slots_spans : List Span → Slots → List Span
  slots_spans spans no_slots = []
  slots_spans spans (slot list places more) = places_spans spans places ++ slots_spans spans more

  pub places_spans : List Span → Places → List Span
  places_spans spans no_places = []
  places_spans spans (hole name more) = places_spans spans more
  places_spans spans (place name x more) = spans_of spans x ++ places_spans spans more

-- what a place becomes under this name
abbrev pub numbered_spot : Option PlaceName → ℕ → Spot → Spot
numbered_spot name n (was, None) = (name, None)
numbered_spot name n (was, Some x) = (name, Some (numbered n x))

abbrev pub spot_spans : List Span → Spot → List Span
spot_spans spans (was, None) = []
spot_spans spans (was, Some x) = spans_of spans x

abbrev pub spot_count : Spot → ℕ
spot_count (was, None) = 0
spot_count (was, Some x) = count x
