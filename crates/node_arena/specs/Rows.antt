-- Rows of nodes, slots and places, and what a write changes.
use Rattle.std.specs.Prelude.{ℕ, suc, ◌+◌, ◌*◌, ◌<◌, ◌≤◌, Bool, true, false, List, [], ◌∷◌, ◌++◌, length, Option, Some, None, slice_get, slice_set, take}
use Rattle.node_arena.specs.declared.links.Node.{Node}
use Rattle.node_arena.specs.declared.links.SlotRow.{SlotRow}
use Rattle.node_arena.specs.declared.links.PlaceRow.{PlaceRow}
use Rattle.node_arena.specs.declared.links.Link.{Link}
use Rattle.node_arena.specs.declared.links.Link.TheVariants as link
use Rattle.type_defs.specs.declared.kind.Kind.{Kind}
use Rattle.type_defs.specs.Fields.{lists_at}

pub record Rows : Type 0 where
  pub nodes : List Node
  pub slots : List SlotRow
  pub places : List PlaceRow

-- the rows, and for how many new nodes or places there is memory
pub record Table : Type 0 where
  pub rows : Rows
  pub spare : ℕ

abbrev pub rows_of : List Node → List SlotRow → List PlaceRow → Rows
rows_of nodes slots places = record { nodes = nodes; slots = slots; places = places }

abbrev pub table_of : Rows → ℕ → Table
table_of rows spare = record { rows = rows; spare = spare }

-- the first rows of each sort
abbrev pub front_rows : ℕ → ℕ → ℕ → Rows → Rows
front_rows nodes slots places t = record { nodes = take nodes t.nodes; slots = take slots t.slots; places = take places t.places }

-- lengths and capacities leave room for so many new nodes with at most four slots each
pub record HasRoom (nodes most_nodes slots most_slots places most_places spare : ℕ) : Type 0 where
  pub for_nodes : nodes + spare ≤ most_nodes
  pub for_slots : slots + 4 * spare ≤ most_slots
  pub for_places : places + 4 * spare ≤ most_places

abbrev pub edit_row : {A : Type 0} → List A → ℕ → (A → A) → Option A → List A
edit_row xs i f None = xs
edit_row xs i f (Some x) = slice_set xs i (f x)

-- the list with the item at a number changed
abbrev pub edit : {A : Type 0} → List A → ℕ → (A → A) → List A
edit xs i f = edit_row xs i f (slice_get xs i)

abbrev pub standing_at : Option ℕ → Node → Node
standing_at to r = record r { at = to }

abbrev pub starting : Option ℕ → SlotRow → SlotRow
starting to r = record r { first = to }

abbrev pub owned_row : Option ℕ → PlaceRow → PlaceRow
owned_row to r = record r { owner = to }

abbrev pub holding_row : Option ℕ → PlaceRow → PlaceRow
holding_row to r = record r { node = to }

abbrev pub before_row : Option ℕ → PlaceRow → PlaceRow
before_row to r = record r { next = to }

abbrev pub after_row : Option ℕ → PlaceRow → PlaceRow
after_row to r = record r { prev = to }

-- one entry of one row is written
abbrev pub written : Rows → Link → Rows
written t (link.At j to) = record t { nodes = edit t.nodes j (standing_at to) }
written t (link.First s to) = record t { slots = edit t.slots s (starting to) }
written t (link.Owner p to) = record t { places = edit t.places p (owned_row to) }
written t (link.Node p to) = record t { places = edit t.places p (holding_row to) }
written t (link.Next p to) = record t { places = edit t.places p (before_row to) }
written t (link.Prev p to) = record t { places = edit t.places p (after_row to) }

-- the row of the entry is there
abbrev pub HasRow : Rows → Link → Type 0
HasRow t (link.At j to) = j < length t.nodes
HasRow t (link.First s to) = s < length t.slots
HasRow t (link.Owner p to) = p < length t.places
HasRow t (link.Node p to) = p < length t.places
HasRow t (link.Next p to) = p < length t.places
HasRow t (link.Prev p to) = p < length t.places

abbrev pub between_row : ℕ → Option ℕ → Option ℕ → PlaceRow
between_row s prev next = record { owner = Some s; node = None; next = next; prev = prev }

-- a new place between two neighbours of a slot
abbrev pub with_place : Rows → ℕ → Option ℕ → Option ℕ → Rows
with_place t s prev next = record t { places = t.places ++ between_row s prev next ∷ [] }

abbrev pub empty_row : Option ℕ → PlaceRow
empty_row owner = record { owner = owner; node = None; next = None; prev = None }

-- the root place alone
abbrev pub start_rows : Rows
start_rows = record { nodes = []; slots = []; places = empty_row None ∷ [] }

abbrev pub start_table : Table
start_table = record { rows = start_rows; spare = 0 }

-- a slot of a new node: an empty list, or one place
abbrev pub slot_row : ℕ → ℕ → ℕ → Bool → SlotRow
slot_row node place index true = record { node = node; index = index; list = true; first = None }
slot_row node place index false = record { node = node; index = index; list = false; first = Some place }

abbrev pub place_row : ℕ → Bool → List PlaceRow
place_row slot true = []
place_row slot false = empty_row (Some slot) ∷ []

-- the next place's number after such a slot
abbrev pub after_slot : ℕ → Bool → ℕ
after_slot place true = place
after_slot place false = suc place

abbrev pub slot_rows : ℕ → ℕ → ℕ → List Bool → List SlotRow
slot_rows node place index [] = []
slot_rows node place index (b ∷ bs) = slot_row node place index b ∷ slot_rows node (after_slot place b) (suc index) bs

abbrev pub place_rows : ℕ → List Bool → List PlaceRow
place_rows slot [] = []
place_rows slot (b ∷ bs) = place_row slot b ++ place_rows (suc slot) bs

abbrev pub new_node : Kind → ℕ → Node
new_node kind base = record { kind = kind; at = None; base = base }

-- a new node of a kind with its slots, a root
abbrev pub made_rows : Rows → Kind → Rows
made_rows t kind = record {
  nodes = t.nodes ++ new_node kind (length t.slots) ∷ [];
  slots = t.slots ++ slot_rows (length t.nodes) (length t.places) 0 (lists_at kind);
  places = t.places ++ place_rows (length t.slots) (lists_at kind);
}

-- what comes after the left end of a gap: first in the slot, or after a place
abbrev pub left_written : Rows → ℕ → Option ℕ → Option ℕ → Rows
left_written t s None to = written t (link.First s to)
left_written t s (Some a) to = written t (link.Next a to)

-- what comes before the right end of a gap
abbrev pub right_written : Rows → Option ℕ → Option ℕ → Rows
right_written t None to = t
right_written t (Some b) to = written t (link.Prev b to)

abbrev pub HasLeft : Rows → ℕ → Option ℕ → Type 0
HasLeft t s None = s < length t.slots
HasLeft t s (Some a) = a < length t.places

abbrev pub HasRight : Rows → Option ℕ → Type 0
HasRight t None = Unit {0}
HasRight t (Some b) = b < length t.places

-- a new place in a gap of a slot
abbrev pub linked_rows : Rows → ℕ → Option ℕ → Option ℕ → Rows
linked_rows t s prev next = right_written (left_written (with_place t s prev next) s prev (Some (length t.places))) next (Some (length t.places))

abbrev pub bared : Rows → ℕ → Rows
bared t p = written (written (written t (link.Owner p None)) (link.Next p None)) (link.Prev p None)

abbrev pub detached_row : Rows → ℕ → ℕ → Option PlaceRow → Rows
detached_row t s p None = t
detached_row t s p (Some r) = bared (right_written (left_written t s r.prev r.next) r.next r.prev) p

-- a place goes out of its slot
abbrev pub detached_rows : Rows → ℕ → ℕ → Rows
detached_rows t s p = detached_row t s p (slice_get t.places p)

abbrev pub HasEnds_of : Rows → ℕ → Option PlaceRow → Type 0
HasEnds_of t s None = ⊥
HasEnds_of t s (Some r) = HasLeft t s r.prev × HasRight t r.next

-- the neighbours of a place have rows
abbrev pub HasEnds : Rows → ℕ → ℕ → Type 0
HasEnds t s p = HasEnds_of t s (slice_get t.places p)

abbrev pub node_in : Option PlaceRow → Option ℕ
node_in None = None
node_in (Some r) = r.node

abbrev pub owner_in : Option PlaceRow → Option ℕ
owner_in None = None
owner_in (Some r) = r.owner

abbrev pub left_alone : Rows → ℕ → Option ℕ → Rows
left_alone t p None = t
left_alone t p (Some j) = written (written t (link.At j None)) (link.Node p None)

-- a node goes out of its place
abbrev pub emptied_rows : Rows → ℕ → Rows
emptied_rows t p = left_alone t p (node_in (slice_get t.places p))

abbrev pub HasNodeRow : Rows → Option ℕ → Type 0
HasNodeRow t None = Unit {0}
HasNodeRow t (Some j) = j < length t.nodes

-- a node comes into a place
abbrev pub seated_rows : Rows → ℕ → ℕ → Rows
seated_rows t p j = written (written t (link.Node p (Some j))) (link.At j (Some p))

abbrev pub given_rows : Rows → ℕ → Option ℕ → Rows
given_rows t p None = t
given_rows t p (Some j) = seated_rows t p j

-- a new place in a gap of a slot, with a node or without
abbrev pub inserted_rows : Rows → ℕ → Option ℕ → Option ℕ → Option ℕ → Rows
inserted_rows t s prev next node = given_rows (linked_rows t s prev next) (length t.places) node

abbrev pub HasSlotRow : Rows → Option ℕ → Type 0
HasSlotRow t None = Unit {0}
HasSlotRow t (Some s) = s < length t.slots
