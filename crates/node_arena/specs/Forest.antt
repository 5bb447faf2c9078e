-- What a table of links stands for: nodes with slots, slots with lists of places, places with nodes.
use Rattle.std.specs.Prelude.{◌≡◌, ℕ, zero, suc, ◌+◌, ◌*◌, ◌<◌, ◌≤◌, ◌^◌, Bool, true, false, List, [], ◌∷◌, ◌++◌, length, map, Option, Some, None, slice_get, take, if◌then◌else◌}
use Rattle.type_defs.specs.declared.kind.Kind.{Kind}
use Rattle.type_defs.specs.Fields.{lists_at, is_list_at}
use Rattle.node_arena.specs.declared.links.Node.{Node}
use Rattle.node_arena.specs.declared.links.SlotRow.{SlotRow}
use Rattle.node_arena.specs.declared.links.PlaceRow.{PlaceRow}
use Rattle.node_arena.specs.Rows.{Rows, edit, standing_at, new_node, after_slot}
use Rattle.node_arena.specs.Lists.{Among, Distinct, head_or, insert_after, insert_before, without}

-- a slot: its node, its number among the node's slots, whether it is a list, and its places in order
pub record Slot : Type 0 where
  pub node : ℕ
  pub index : ℕ
  pub list : Bool
  pub kids : List ℕ

-- a place: its slot, and the node that stands in it
pub record Place : Type 0 where
  pub owner : Option ℕ
  pub node : Option ℕ

-- the slots of a node have the numbers from its base on; the root place has the number 0
pub record Forest : Type 0 where
  pub nodes : List Node
  pub slots : List Slot
  pub places : List Place

-- the forest, and for how many new nodes or places there is memory
pub record Linked : Type 0 where
  pub forest : Forest
  pub spare : ℕ

abbrev pub linked_of : Forest → ℕ → Linked
linked_of forest spare = record { forest = forest; spare = spare }

-- The forest of a table: a slot's places are those that the links lead to from its first.
abbrev pub follow_row : Option PlaceRow → (Option ℕ → List ℕ) → List ℕ
follow_row None on = []
follow_row (Some r) on = on r.next

abbrev pub follow_from : List PlaceRow → Option ℕ → (Option ℕ → List ℕ) → List ℕ
follow_from ps None on = []
follow_from ps (Some p) on = p ∷ follow_row (slice_get ps p) on

-- at most so many places
abbrev pub followed : ℕ → List PlaceRow → Option ℕ → List ℕ
followed zero ps from = []
followed (suc n) ps from = follow_from ps from (followed n ps)

abbrev pub slot_of : List PlaceRow → SlotRow → Slot
slot_of ps r = record { node = r.node; index = r.index; list = r.list; kids = followed (length ps) ps r.first }

abbrev pub place_of : PlaceRow → Place
place_of r = record { owner = r.owner; node = r.node }

abbrev pub forest_of : Rows → Forest
forest_of t = record { nodes = t.nodes; slots = map (slot_of t.places) t.slots; places = map place_of t.places }

-- the row of a place of a slot between two others
pub record IsLinked (ps : List PlaceRow) (s : ℕ) (prev : Option ℕ) (x : ℕ) (next : Option ℕ) : Type 0 where
  pub node : Option ℕ
  pub is : slice_get ps x ≡ Some (record { owner = Some s; node = node; next = next; prev = prev })

-- the links of these places agree in both directions, between two ends
abbrev pub Chain : List PlaceRow → ℕ → Option ℕ → List ℕ → Option ℕ → Type 0
Chain ps s prev [] next = Unit {0}
Chain ps s prev (x ∷ xs) next = IsLinked ps s prev x (head_or xs next) × Chain ps s (Some x) xs next

-- the row that a slot is to have
abbrev pub core_of : Slot → SlotRow
core_of n = record { node = n.node; index = n.index; list = n.list; first = head_or n.kids None }

-- the table says what the forest says
pub record Stands (t : Rows) (F : Forest) : Type 0 where
  pub nodes : t.nodes ≡ F.nodes
  pub slots : t.slots ≡ map core_of F.slots
  pub places : map place_of t.places ≡ F.places
  pub chains : (s : ℕ) (n : Slot) → slice_get F.slots s ≡ Some n → Chain t.places s None n.kids None

-- x is a place of the node i
pub record IsPlaceOf (F : Forest) (i x : ℕ) : Type 0 where
  pub place : Place
  pub is : slice_get F.places x ≡ Some place
  pub number : ℕ
  pub owner : place.owner ≡ Some number
  pub slot : Slot
  pub slot_is : slice_get F.slots number ≡ Some slot
  pub node : slot.node ≡ i

-- the node j stands in the place x of the node i
pub record IsBelow (F : Forest) (i x j : ℕ) : Type 0 where
  pub at : IsPlaceOf F i x
  pub node : at.place.node ≡ Some j

-- the node j is the node i, or the node i holds it
pub data Under (F : Forest) : ℕ → ℕ → Type 0 where
  itself : {i : ℕ} → Under F i i
  below : {i x k j : ℕ} → IsBelow F i x k → Under F k j → Under F i j

-- the node i holds the place x
pub record Holds (F : Forest) (i x : ℕ) : Type 0 where
  pub node : ℕ
  pub under : Under F i node
  pub at : IsPlaceOf F node x

-- what is below a node ends: no node is held by itself
pub data Ends (F : Forest) : ℕ → Type 0 where
  ends : {i : ℕ} → ((x j : ℕ) → IsBelow F i x j → Ends F j) → Ends F i

-- The laws of a forest. A node's slots: as many as its kind has, each with its number and form.
pub record HasSlot (slots : List Slot) (j base : ℕ) (kind : Kind) (k : ℕ) : Type 0 where
  pub slot : Slot
  pub is : slice_get slots (base + k) ≡ Some slot
  pub node : slot.node ≡ j
  pub index : slot.index ≡ k
  pub list : slot.list ≡ is_list_at kind k

pub record HasBase (nodes : List Node) (s node index : ℕ) : Type 0 where
  pub row : Node
  pub is : slice_get nodes node ≡ Some row
  pub number : row.base + index ≡ s
  pub within : index < length (lists_at row.kind)

pub record HasShape (nodes : List Node) (slots : List Slot) : Type 0 where
  pub slotted : (j k : ℕ) (m : Node) → slice_get nodes j ≡ Some m → k < length (lists_at m.kind) → HasSlot slots j m.base m.kind k
  pub based : (s : ℕ) (n : Slot) → slice_get slots s ≡ Some n → HasBase nodes s n.node n.index

-- Slots and their places: each place of a slot is in its list once, and a slot that is no list has one place.
pub record IsOwned (slots : List Slot) (x s : ℕ) : Type 0 where
  pub slot : Slot
  pub is : slice_get slots s ≡ Some slot
  pub among : Among x slot.kids

pub record IsOwner (places : List Place) (s x : ℕ) : Type 0 where
  pub place : Place
  pub is : slice_get places x ≡ Some place
  pub owner : place.owner ≡ Some s

pub record HasOne (kids : List ℕ) : Type 0 where
  pub place : ℕ
  pub is : kids ≡ place ∷ []

pub record HasLists (slots : List Slot) (places : List Place) : Type 0 where
  pub owned : (x s : ℕ) (q : Place) → slice_get places x ≡ Some q → q.owner ≡ Some s → IsOwned slots x s
  pub owner : (s x : ℕ) (n : Slot) → slice_get slots s ≡ Some n → Among x n.kids → IsOwner places s x
  pub distinct : (s : ℕ) (n : Slot) → slice_get slots s ≡ Some n → Distinct n.kids
  pub single : (s : ℕ) (n : Slot) → slice_get slots s ≡ Some n → n.list ≡ false → HasOne n.kids

-- Nodes and places: each node stands in at most one place.
pub record StandsAt (nodes : List Node) (j x : ℕ) : Type 0 where
  pub row : Node
  pub is : slice_get nodes j ≡ Some row
  pub at : row.at ≡ Some x

pub record HasNode (places : List Place) (x j : ℕ) : Type 0 where
  pub place : Place
  pub is : slice_get places x ≡ Some place
  pub node : place.node ≡ Some j

pub record HasSeats (nodes : List Node) (places : List Place) : Type 0 where
  pub seated : (x j : ℕ) (q : Place) → slice_get places x ≡ Some q → q.node ≡ Some j → StandsAt nodes j x
  pub seat : (j x : ℕ) (m : Node) → slice_get nodes j ≡ Some m → m.at ≡ Some x → HasNode places x j

pub record IsRootPlace (places : List Place) : Type 0 where
  pub place : Place
  pub is : slice_get places 0 ≡ Some place
  pub owner : place.owner ≡ None

pub record IsLawful (F : Forest) : Type 0 where
  pub shape : HasShape F.nodes F.slots
  pub lists : HasLists F.slots F.places
  pub seats : HasSeats F.nodes F.places
  pub root : IsRootPlace F.places
  pub ended : (i : ℕ) → Ends F i

-- a table that stands for a lawful forest
pub record IsTable (t : Rows) : Type 0 where
  pub stands : Stands t (forest_of t)
  pub lawful : IsLawful (forest_of t)
  pub few_nodes : length t.nodes ≤ 2 ^ 22
  pub few_slots : length t.slots ≤ 4 * length t.nodes
  pub few_places : length t.places ≤ 2 ^ 26

-- Reads.
abbrev pub node_of : Option Place → Option ℕ
node_of None = None
node_of (Some q) = q.node

-- the node that stands in a place
abbrev pub node_at : Forest → ℕ → Option ℕ
node_at F p = node_of (slice_get F.places p)

abbrev pub owner_of : Option Place → Option ℕ
owner_of None = None
owner_of (Some q) = q.owner

-- the slot of a place
abbrev pub slot_at : Forest → ℕ → Option ℕ
slot_at F p = owner_of (slice_get F.places p)

abbrev pub list_if : ℕ → Option Slot → Option ℕ
list_if s None = None
list_if s (Some n) = if n.list then Some s else None

abbrev pub list_of : Forest → Option ℕ → Option ℕ
list_of F None = None
list_of F (Some s) = list_if s (slice_get F.slots s)

-- the list that a place is in
abbrev pub list_at : Forest → ℕ → Option ℕ
list_at F p = list_of F (slot_at F p)

abbrev pub IsRoot_row : Option Node → Type 0
IsRoot_row None = ⊥
IsRoot_row (Some m) = m.at ≡ None

-- the node is there, and stands in no place
abbrev pub IsRoot : Forest → ℕ → Type 0
IsRoot F j = IsRoot_row (slice_get F.nodes j)

-- Changes.
abbrev pub holding : Option ℕ → Place → Place
holding to q = record q { node = to }

abbrev pub owned_by : Option ℕ → Place → Place
owned_by to q = record q { owner = to }

abbrev pub with_kids : (List ℕ → List ℕ) → Slot → Slot
with_kids f n = record n { kids = f n.kids }

-- the node j gets another place, and the place p another node
abbrev pub reseated : Forest → ℕ → ℕ → Option ℕ → Option ℕ → Forest
reseated F j p at to = record F { nodes = edit F.nodes j (standing_at at); places = edit F.places p (holding to) }

abbrev pub cleared : Forest → ℕ → Option ℕ → Forest
cleared F p None = F
cleared F p (Some j) = reseated F j p None None

-- a place without its node, which is a root
abbrev pub clear_of : Forest → ℕ → Forest
clear_of F p = cleared F p (node_at F p)

-- a root in an empty place
abbrev pub fill_of : Forest → ℕ → ℕ → Forest
fill_of F p j = reseated F j p (Some p) (Some j)

-- a root in a place, and what stood there is a root
abbrev pub put_of : Forest → ℕ → ℕ → Forest
put_of F p j = fill_of (clear_of F p) p j

abbrev pub empty_place : ℕ → Place
empty_place s = record { owner = Some s; node = None }

-- a new empty place in a slot
abbrev pub grown : Forest → ℕ → (List ℕ → List ℕ) → Forest
grown F s f = record F { slots = edit F.slots s (with_kids f); places = F.places ++ empty_place s ∷ [] }

abbrev pub given : Forest → ℕ → Option ℕ → Forest
given F p None = F
given F p (Some j) = fill_of F p j

abbrev pub at_slot : Forest → Option ℕ → (ℕ → Forest) → Forest
at_slot F None f = F
at_slot F (Some s) f = f s

-- a new place at the head of a list, with a node or without
abbrev pub insert_first_of : Forest → ℕ → Option ℕ → Forest
insert_first_of F s node = given (grown F s (λ xs. length F.places ∷ xs)) (length F.places) node

-- a new place after another of its list
abbrev pub insert_after_of : Forest → ℕ → Option ℕ → Forest
insert_after_of F p node = at_slot F (list_at F p) (λ s. given (grown F s (insert_after p (length F.places))) (length F.places) node)

-- a new place before another of its list
abbrev pub insert_before_of : Forest → ℕ → Option ℕ → Forest
insert_before_of F p node = at_slot F (list_at F p) (λ s. given (grown F s (insert_before p (length F.places))) (length F.places) node)

abbrev pub left : Forest → ℕ → ℕ → Forest
left F s p = record F { slots = edit F.slots s (with_kids (without p)); places = edit F.places p (owned_by None) }

-- a place out of its list, its node a root
abbrev pub unlink_of : Forest → ℕ → Forest
unlink_of F p = at_slot F (list_at F p) (λ s. left (clear_of F p) s p)

-- a slot of a new node: an empty list, or one place
abbrev pub new_slot : ℕ → ℕ → ℕ → Bool → Slot
new_slot node place index true = record { node = node; index = index; list = true; kids = [] }
new_slot node place index false = record { node = node; index = index; list = false; kids = place ∷ [] }

abbrev pub new_slots : ℕ → ℕ → ℕ → List Bool → List Slot
new_slots node place index [] = []
new_slots node place index (b ∷ bs) = new_slot node place index b ∷ new_slots node (after_slot place b) (suc index) bs

abbrev pub new_place : ℕ → Bool → List Place
new_place slot true = []
new_place slot false = empty_place slot ∷ []

abbrev pub new_places : ℕ → List Bool → List Place
new_places slot [] = []
new_places slot (b ∷ bs) = new_place slot b ++ new_places (suc slot) bs

-- a new node of a kind, a root: its lists are empty, and each other slot has one place, empty
abbrev pub make_of : Forest → Kind → Forest
make_of F kind = record {
  nodes = F.nodes ++ new_node kind (length F.slots) ∷ [];
  slots = F.slots ++ new_slots (length F.nodes) (length F.places) 0 (lists_at kind);
  places = F.places ++ new_places (length F.slots) (lists_at kind);
}

-- the first nodes, slots and places
abbrev pub front_forest : ℕ → ℕ → ℕ → Forest → Forest
front_forest nodes slots places F = record { nodes = take nodes F.nodes; slots = take slots F.slots; places = take places F.places }

-- the root place alone
abbrev pub start_forest : Forest
start_forest = record { nodes = []; slots = []; places = record { owner = None; node = None } ∷ [] }

-- Conditions.
-- a root that does not hold the place
pub record MayGo (F : Forest) (p j : ℕ) : Type 0 where
  pub root : IsRoot F j
  pub apart : Holds F j p → ⊥

-- a root that neither is nor holds the node of a slot
pub record MayJoin (F : Forest) (s j : ℕ) : Type 0 where
  pub root : IsRoot F j
  pub apart : (n : Slot) → slice_get F.slots s ≡ Some n → Under F j n.node → ⊥

abbrev pub Joins : Forest → ℕ → Option ℕ → Type 0
Joins F s None = Unit {0}
Joins F s (Some j) = MayJoin F s j

-- what goes into a new place of a list
abbrev pub JoinsAt : Forest → Option ℕ → Option ℕ → Type 0
JoinsAt F None _ = Unit {0}
JoinsAt F (Some s) node = Joins F s node

-- a list of a node
pub record IsListSlot (F : Forest) (s : ℕ) : Type 0 where
  pub slot : Slot
  pub is : slice_get F.slots s ≡ Some slot
  pub list : slot.list ≡ true
