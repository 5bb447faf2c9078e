-- Paths over a flat forest: owners' places, places by name and number, and what is taken away.
use Rattle.std.specs.Prelude.{◌≡◌, ◌≢◌, ◌≤◌, ℕ, zero, suc, Bool, true, false, List, length, Option, Some, None, slice_get, ◌==◌, nat_lt, if◌then◌else◌}
use Rattle.type_defs.specs.declared.kind.Kind.{Kind}
use Rattle.type_defs.specs.declared.kind.Kind.TheVariants as k
use Rattle.type_defs.specs.Fields.{Field, is_list_at, slots_at}
use Rattle.node_arena.specs.declared.state.ArenaFault.{ArenaFault}
use Rattle.node_arena.specs.declared.state.ArenaFault.TheVariants as a
use Rattle.node_arena.specs.declared.state.PlaceState.{PlaceState}
use Rattle.node_arena.specs.declared.state.PlaceState.TheVariants.{Root, Single, Listed, Out}
use Rattle.ast_paths.specs.declared.fault.PathFault.{PathFault}
use Rattle.ast_paths.specs.declared.fault.PathFault.TheVariants as f
use Rattle.ast_paths.specs.declared.changes.Side.{Side}
use Rattle.ast_paths.specs.declared.changes.Side.TheVariants as s
use Rattle.node_arena.specs.Forest.{Forest, clear_of, node_at, unlink_of}
use Rattle.node_arena.specs.Reads.{first_at, kind_at, next_at, owner_at, place_at, state_at}

-- ids of one forest are ids of the other
pub record KeepsIds (F G : Forest) : Type 0 where
  pub nodes : length F.nodes ≤ length G.nodes
  pub places : length F.places ≤ length G.places

abbrev pub is_some : Option ℕ → Bool
is_some None = false
is_some (Some _) = true

-- a node stands in the place
unfoldable pub is_filled : Forest → ℕ → Bool
is_filled F x = is_some (node_at F x)

-- each place that holds a node holds a node still
abbrev pub KeepsFilled : Forest → Forest → Type 0
KeepsFilled F G = (x : ℕ) → is_filled F x ≡ true → is_filled G x ≡ true

abbrev pub place_some : Forest → Option ℕ → Option ℕ
place_some F None = None
place_some F (Some j) = place_at F j

-- the place where the owner of a place stands
abbrev pub parent_at : Forest → ℕ → Option ℕ
parent_at F p = place_some F (owner_at F p)

-- the slot of this number of a kind has this name
pub record IsSlotNamed (kind : Kind) (slot : ℕ) (name : List ℕ) : Type 0 where
  pub field : Field
  pub is : slice_get (slots_at kind) slot ≡ Some field
  pub named : field.name ≡ name

-- no slot of the kind has this name
abbrev pub LacksSlot : Kind → List ℕ → Type 0
LacksSlot kind name = (slot : ℕ) (field : Field) → slice_get (slots_at kind) slot ≡ Some field → field.name ≢ name

abbrev pub next_some : Forest → Option ℕ → Option ℕ
next_some F None = None
next_some F (Some p) = next_at F p

-- the place so many places after the first
unfoldable pub nth_from : Forest → Option ℕ → ℕ → Option ℕ
nth_from F first zero = first
nth_from F first (suc n) = next_some F (nth_from F first n)

-- the place of a slot of a node; of a list, the place so many places after its first
abbrev pub kid_of : Forest → ℕ → ℕ → ℕ → Option ℕ
kid_of F j slot index = if is_list_at (kind_at F j) slot then nth_from F (first_at F j slot) index else first_at F j slot

-- the place of a slot of this name
pub record IsKid (F : Forest) (j : ℕ) (name : List ℕ) (index : ℕ) (o : Option ℕ) : Type 0 where
  pub slot : ℕ
  pub named : IsSlotNamed (kind_at F j) slot name
  pub is : o ≡ kid_of F j slot index

-- a node stands there, and has no slot of this name
abbrev pub LacksAt : Forest → Option ℕ → List ℕ → Type 0
LacksAt F None name = ⊥
LacksAt F (Some j) name = LacksSlot (kind_at F j) name

abbrev pub take_out_in : Forest → ℕ → PlaceState → Forest
take_out_in F p Listed = unlink_of F p
take_out_in F p Single = clear_of F p
take_out_in F p Root = clear_of F p
take_out_in F p Out = F

-- a place out of its list, or emptied where it is in none
abbrev pub take_out_of : Forest → ℕ → Forest
take_out_of F p = take_out_in F p (state_at F p)

abbrev pub is_none : Option ℕ → Bool
is_none None = true
is_none (Some _) = false

abbrev pub is_empty : Forest → Option ℕ → Bool
is_empty F None = true
is_empty F (Some p) = is_none (node_at F p)

-- whether a node of a kind is nothing, by the first place of its first slot
abbrev pub is_bare_kind : Forest → Option ℕ → Kind → Bool
is_bare_kind F first k.ExpressionStatement = is_empty F first
is_bare_kind F first k.VariableDeclaration = is_none first
is_bare_kind F first _ = false

-- an expression statement without expression, or a declaration without declarators
abbrev pub is_bare : Forest → ℕ → Bool
is_bare F j = is_bare_kind F (first_at F j 0) (kind_at F j)

abbrev pub take_place_of : Forest → Option ℕ → Forest
take_place_of F None = F
take_place_of F (Some p) = take_out_of F p

-- what is nothing without what was taken goes too
abbrev pub take_owner_of : Forest → ℕ → Forest
take_owner_of F j = if is_bare F j then take_place_of F (place_at F j) else F

abbrev pub take_owner_some : Forest → Option ℕ → Forest
take_owner_some F None = F
take_owner_some F (Some j) = take_owner_of F j

-- what stands in a place away, and then its owner where it is nothing without it
abbrev pub prune_of : Forest → ℕ → Forest
prune_of F p = take_owner_some (take_out_of F p) (owner_at F p)

abbrev pub fault_of : ArenaFault → PathFault
fault_of a.Full = f.Full
fault_of a.NotInList = f.NotInList
fault_of a.NoMemory = f.NoMemory

-- whether so many nodes may go into a place of this state: two or more only in a list
abbrev pub takes_nodes : PlaceState → ℕ → Bool
takes_nodes Listed n = true
takes_nodes Out n = false
takes_nodes Root n = nat_lt n 2
takes_nodes Single n = nat_lt n 2

-- whether nodes may go in beside it
abbrev pub is_listed : PlaceState → Bool
is_listed Listed = true
is_listed Out = false
is_listed Root = false
is_listed Single = false

-- whether a change with so many nodes may be made at a place of this state
abbrev pub is_open : PlaceState → Side → ℕ → Bool
is_open state s.Into n = takes_nodes state n
is_open state s.Before n = is_listed state
is_open state s.After n = is_listed state
