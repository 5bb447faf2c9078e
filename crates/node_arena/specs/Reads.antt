-- What the reads tell of a forest.
use Rattle.std.specs.Prelude.{ℕ, ◌+◌, List, [], ◌∷◌, length, Option, Some, None, slice_get, ◌==◌, nat_lt, if◌then◌else◌}
use Rattle.type_defs.specs.declared.kind.Kind.{Kind}
use Rattle.type_defs.specs.declared.kind.Kind.TheVariants.{EmptyStatement}
use Rattle.type_defs.specs.Fields.{lists_at}
use Rattle.node_arena.specs.declared.links.Node.{Node}
use Rattle.node_arena.specs.declared.state.PlaceState.{PlaceState}
use Rattle.node_arena.specs.declared.state.PlaceState.TheVariants.{Root, Single, Listed, Out}
use Rattle.node_arena.specs.Lists.{head_or}
use Rattle.node_arena.specs.Forest.{Forest, Slot, slot_at}

abbrev pub kind_in : Option Node → Kind
kind_in None = EmptyStatement
kind_in (Some m) = m.kind

-- the kind of a node that is there
abbrev pub kind_at : Forest → ℕ → Kind
kind_at F j = kind_in (slice_get F.nodes j)

abbrev pub base_in : Option Node → ℕ
base_in None = 0
base_in (Some m) = m.base

-- the number of a node's first slot
abbrev pub base_at : Forest → ℕ → ℕ
base_at F j = base_in (slice_get F.nodes j)

abbrev pub place_in : Option Node → Option ℕ
place_in None = None
place_in (Some m) = m.at

-- the place where a node stands
abbrev pub place_at : Forest → ℕ → Option ℕ
place_at F j = place_in (slice_get F.nodes j)

abbrev pub kids_in : Option Slot → List ℕ
kids_in None = []
kids_in (Some n) = n.kids

-- the places of a slot
abbrev pub kids_at : Forest → ℕ → List ℕ
kids_at F s = kids_in (slice_get F.slots s)

-- the first place of a node's slot, if the node has the slot and the slot a place
abbrev pub first_at : Forest → ℕ → ℕ → Option ℕ
first_at F j k = if nat_lt k (length (lists_at (kind_at F j))) then head_or (kids_at F (base_at F j + k)) None else None

-- what comes after p
abbrev pub following : ℕ → List ℕ → Option ℕ
following p [] = None
following p (x ∷ xs) = if x == p then head_or xs None else following p xs

-- what comes before p
abbrev pub preceding : ℕ → Option ℕ → List ℕ → Option ℕ
preceding p before [] = None
preceding p before (x ∷ xs) = if x == p then before else preceding p (Some x) xs

abbrev pub next_in : Forest → ℕ → Option ℕ → Option ℕ
next_in F p None = None
next_in F p (Some s) = following p (kids_at F s)

-- the next place of the slot
abbrev pub next_at : Forest → ℕ → Option ℕ
next_at F p = next_in F p (slot_at F p)

abbrev pub prev_in : Forest → ℕ → Option ℕ → Option ℕ
prev_in F p None = None
prev_in F p (Some s) = preceding p None (kids_at F s)

-- the place before it in the slot
abbrev pub prev_at : Forest → ℕ → Option ℕ
prev_at F p = prev_in F p (slot_at F p)

abbrev pub slot_node : Option Slot → Option ℕ
slot_node None = None
slot_node (Some n) = Some n.node

abbrev pub slot_index : Option Slot → Option ℕ
slot_index None = None
slot_index (Some n) = Some n.index

abbrev pub owner_in : Forest → Option ℕ → Option ℕ
owner_in F None = None
owner_in F (Some s) = slot_node (slice_get F.slots s)

-- the node that has the place
abbrev pub owner_at : Forest → ℕ → Option ℕ
owner_at F p = owner_in F (slot_at F p)

abbrev pub index_in : Forest → Option ℕ → Option ℕ
index_in F None = None
index_in F (Some s) = slot_index (slice_get F.slots s)

-- the number of the place's slot among those of its node
abbrev pub index_at : Forest → ℕ → Option ℕ
index_at F p = index_in F (slot_at F p)

abbrev pub slot_state : Option Slot → PlaceState
slot_state None = Out
slot_state (Some n) = if n.list then Listed else Single

abbrev pub state_in : Forest → ℕ → Option ℕ → PlaceState
state_in F p None = if p == 0 then Root else Out
state_in F p (Some s) = slot_state (slice_get F.slots s)

-- the state of a place
abbrev pub state_at : Forest → ℕ → PlaceState
state_at F p = state_in F p (slot_at F p)
