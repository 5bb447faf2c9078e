-- Trees whose leaves, the nodes without slots, are spelled where they stand.
use Rattle.std.specs.Prelude.{ℕ, List}
use Rattle.tree_core.specs.declared.span.Span.{Span}
use Rattle.tree_core.specs.Numbers.{span_of}
use Rattle.tree_core.specs.Syntax.{Syntax, node, Slots, no_slots, slot, Places, no_places, hole, place}
use Rattle.leaf_spellings.specs.Leaves.{LeafSpelled}

abbrev mutual
  -- by these spans, which stand at their nodes' numbers, the text spells each leaf of the tree at
  -- its span
  pub LeavesSpelled : List ℕ → List Span → Syntax → Type 0
  LeavesSpelled s spans (node kind scalars slots notes from) = LeafSpelled s (span_of spans from) (node kind scalars slots notes from) × SlotsSpelled s spans slots

  pub SlotsSpelled : List ℕ → List Span → Slots → Type 0
  SlotsSpelled s spans no_slots = Unit {0}
  SlotsSpelled s spans (slot list places more) = PlacesSpelled s spans places × SlotsSpelled s spans more

  pub PlacesSpelled : List ℕ → List Span → Places → Type 0
  PlacesSpelled s spans no_places = Unit {0}
  PlacesSpelled s spans (hole name more) = PlacesSpelled s spans more
  PlacesSpelled s spans (place name t more) = LeavesSpelled s spans t × PlacesSpelled s spans more
