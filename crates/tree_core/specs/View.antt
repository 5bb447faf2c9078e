-- The plain tree that a `Tree` stands for: one fold.
use Rattle.std.specs.Prelude.{Bool, false, true, List, [], ◌∷◌, Option, Some, None}
use Rattle.std.specs.declared.alloc.Global.{Global}
use Rattle.std.specs.declared.boxed.Box.{Box}
use Rattle.tree_core.specs.declared.tree.Tree.{Tree, fold-Tree, Tree-F}
use Rattle.tree_core.specs.declared.tree.Slot.{Slot, fold-Slot}
use Rattle.tree_core.specs.declared.tree.Slot.TheOpen.{Slot-F}
use Rattle.tree_core.specs.declared.tree.Place.{Place, Place-F, fold-Place}
use Rattle.tree_core.specs.declared.tree.PlaceName.{PlaceName}
use Rattle.tree_core.specs.Syntax.{Syntax, node, Slots, no_slots, slot, Places, no_places, hole, place}

-- a place: its name and what stands there
abbrev pub Spot : Type 0
Spot = Option PlaceName × Option Syntax

-- a slot: whether it is a list, and its places
abbrev pub Row : Type 0
Row = Bool × Places

abbrev pub spot : Spot → Places → Places
spot (name, None) more = hole name more
spot (name, Some t) more = place name t more

abbrev pub places_of : List Spot → Places
places_of [] = no_places
places_of (p ∷ more) = spot p (places_of more)

abbrev pub slots_of : List Row → Slots
slots_of [] = no_slots
slots_of (s ∷ more) = slot s.0 s.1 (slots_of more)

-- what stands in the box, if there is one
abbrev pub boxed : Option (Box Syntax Global) → Option Syntax
boxed None = None
boxed (Some b) = Some b.value

abbrev pub place_step : Place-F Row Spot Syntax → Spot
place_step p = (p.name, boxed p.node)

abbrev pub slot_step : Slot-F Row Spot Syntax → Row
slot_step (Slot-F.Single p) = (false, places_of (p ∷ []))
slot_step (Slot-F.List ps) = (true, places_of ps)

abbrev pub tree_step : Tree-F Row Spot Syntax → Syntax
tree_step t = node t.kind t.scalars (slots_of t.slots) t.notes t.from

abbrev pub syntax : Tree → Syntax
syntax = fold-Tree Row Spot Syntax slot_step place_step tree_step

abbrev pub slot_view : Slot → Row
slot_view = fold-Slot Row Spot Syntax slot_step place_step tree_step

abbrev pub place_view : Place → Spot
place_view = fold-Place Row Spot Syntax slot_step place_step tree_step
