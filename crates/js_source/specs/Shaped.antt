-- Trees in shape: each node has the fields of its kind.
use Rattle.std.specs.Prelude.{◌≡◌, Bool, true, false, List, [], ◌∷◌, length}
use Rattle.tree_core.specs.declared.scalars.Scalar.{Scalar}
use Rattle.tree_core.specs.Numbers.{places_length}
use Rattle.tree_core.specs.Syntax.{Syntax, node, Slots, no_slots, slot, Places, no_places, hole, place}
use Rattle.type_defs.specs.Fields.{scalar_count, lists_at}
use Rattle.type_defs.specs.declared.kind.Kind.{Kind}

-- which of the slots are lists
abbrev pub lists_of : Slots → List Bool
lists_of no_slots = []
lists_of (slot list _ more) = list ∷ lists_of more

-- there are as many scalars as the kind has, and as many slots, of which the same ones are lists
pub record HasFields (kind : Kind) (scalars : List Scalar) (slots : Slots) : Type 0 where
  pub as_many : length scalars ≡ scalar_count kind
  pub alike : lists_of slots ≡ lists_at kind

-- a slot that is no list is one place
abbrev pub HasPlaces : Bool → Places → Type 0
HasPlaces true _ = Unit {0}
HasPlaces false places = places_length places ≡ 1

abbrev mutual
  -- each node of the tree has the fields of its kind
  pub InShape : Syntax → Type 0
  InShape (node kind scalars slots notes from) = HasFields kind scalars slots × SlotsInShape slots

  pub SlotsInShape : Slots → Type 0
  SlotsInShape no_slots = Unit {0}
  SlotsInShape (slot list places more) = (HasPlaces list places × PlacesInShape places) × SlotsInShape more

  pub PlacesInShape : Places → Type 0
  PlacesInShape no_places = Unit {0}
  PlacesInShape (hole name more) = PlacesInShape more
  PlacesInShape (place name t more) = InShape t × PlacesInShape more
