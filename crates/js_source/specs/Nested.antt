-- Spans within spans: a node stands within the node around it.
use Rattle.std.specs.Prelude.{◌≡◌, ℕ, ◌≤◌, List, ◌++◌, length, drop}
use Rattle.tree_core.specs.declared.span.Span.{Span}
use Rattle.tree_core.specs.Numbers.{span_of}
use Rattle.tree_core.specs.Syntax.{Syntax, node, Slots, no_slots, slot, Places, no_places, hole, place}

-- the second span lies within the first
abbrev pub Lies : Span → Span → Type 0
Lies outer span = (outer.start ≤ span.start) × ((span.start ≤ span.end) × (span.end ≤ outer.end))

-- that of a whole text of this length
abbrev pub whole : ℕ → Span
whole len = record { start = 0; end = len }

-- the second list begins with the first
abbrev pub Grows : List Span → List Span → Type 0
Grows before after = after ≡ before ++ drop (length before) after

abbrev mutual
  -- by these spans, which stand at their nodes' numbers, the first node lies within the outer one,
  -- and each other one within the node around it
  pub Nested : List Span → Span → Syntax → Type 0
  Nested spans outer (node kind scalars slots notes from) = Lies outer (span_of spans from) × SlotsNested spans (span_of spans from) slots

  pub SlotsNested : List Span → Span → Slots → Type 0
  SlotsNested spans outer no_slots = Unit {0}
  SlotsNested spans outer (slot list places more) = PlacesNested spans outer places × SlotsNested spans outer more

  pub PlacesNested : List Span → Span → Places → Type 0
  PlacesNested spans outer no_places = Unit {0}
  PlacesNested spans outer (hole name more) = PlacesNested spans outer more
  PlacesNested spans outer (place name t more) = Nested spans outer t × PlacesNested spans outer more
