-- The first rows of an arena, which what is made behind them leaves.
use Rattle.std.specs.Prelude.{◌≡◌, ℕ, ◌+◌, ◌*◌, ◌<◌, ◌≤◌, length, map, take, Option, Some, None, slice_get}
use Rattle.type_defs.specs.declared.kind.Kind.{Kind}
use Rattle.type_defs.specs.Fields.{scalar_count}
use Rattle.node_arena.specs.declared.copies.Mark.{Mark}
use Rattle.node_arena.specs.declared.payload.Facts.{Facts}
use Rattle.node_arena.specs.Forest.{IsLawful, IsRoot, MayGo, Forest, front_forest, list_at}
use Rattle.node_arena.specs.Store.{Store, kind_of}

-- the rows before the mark
abbrev pub front : Mark → Store → Store
front m A = record {
  forest = front_forest m.nodes m.slots m.places A.forest;
  facts = take m.nodes A.facts;
  scalars = take m.scalars A.scalars;
  names = take m.places A.names;
  spare = m.spare;
}

-- no node has more than four slots
abbrev pub HasFewSlots : Forest → Type 0
HasFewSlots F = length F.slots ≤ 4 * length F.nodes

-- an arena with just the rows before the mark
pub record IsFront (m : Mark) (A : Store) : Type 0 where
  pub nodes : length A.forest.nodes ≡ m.nodes
  pub slots : length A.forest.slots ≡ m.slots
  pub places : length A.forest.places ≡ m.places
  pub lawful : IsLawful A.forest
  pub few_slots : HasFewSlots A.forest
  pub facts : length A.facts ≡ m.nodes
  pub names : length A.names ≡ m.places
  pub long : length A.scalars ≡ m.scalars
  pub scalars : (j : ℕ) (kind : Kind) (f : Facts) → slice_get (map kind_of A.forest.nodes) j ≡ Some kind → slice_get A.facts j ≡ Some f → f.first_scalar + scalar_count kind ≤ length A.scalars
  pub few : length A.scalars ≤ 4 * length A.forest.nodes

-- the node is a root, and holds none of so many first places
abbrev pub MayGoBefore : Forest → ℕ → ℕ → Type 0
MayGoBefore F n j = (p : ℕ) → p < n → MayGo F p j

-- the rows of A stand unchanged in B, and others behind them
pub record Grows (A B : Store) : Type 0 where
  pub nodes : take (length A.forest.nodes) B.forest.nodes ≡ A.forest.nodes
  pub slots : take (length A.forest.slots) B.forest.slots ≡ A.forest.slots
  pub places : take (length A.forest.places) B.forest.places ≡ A.forest.places
  pub facts : take (length A.facts) B.facts ≡ A.facts
  pub scalars : take (length A.scalars) B.scalars ≡ A.scalars
  pub names : take (length A.names) B.names ≡ A.names

-- a root that was made after so many nodes and places, and holds none of them
pub record IsNewRoot (F : Forest) (nodes places j : ℕ) : Type 0 where
  pub new : nodes ≤ j
  pub within : j < length F.nodes
  pub may : MayGoBefore F places j

-- the list goes on after this place, or begins
abbrev pub IsLastIn : Forest → ℕ → Option ℕ → Type 0
IsLastIn F s None = Unit {0}
IsLastIn F s (Some p) = (p < length F.places) × (list_at F p ≡ Some s)

-- a root behind the mark
pub record IsRootBehind (m : Mark) (F : Forest) (j : ℕ) : Type 0 where
  pub new : m.nodes ≤ j
  pub within : j < length F.nodes
  pub root : IsRoot F j

-- a list has one place more
pub record IsLonger (F G : Forest) (s p : ℕ) : Type 0 where
  pub nodes : G.nodes ≡ F.nodes
  pub places : length F.places ≤ length G.places
  pub within : p < length G.places
  pub last : IsLastIn G s (Some p)

-- a node was made behind those that were there, and roots are roots
pub record IsCopied (A B : Store) (j : ℕ) : Type 0 where
  pub number : j ≡ length A.forest.nodes
  pub within : j < length B.forest.nodes
  pub places : length A.forest.places ≤ length B.forest.places
  pub roots : (i : ℕ) → i < length A.forest.nodes → IsRoot A.forest i → IsRoot B.forest i

-- there are no fewer nodes and places, and roots are roots
pub record IsGrown (A B : Store) : Type 0 where
  pub nodes : length A.forest.nodes ≤ length B.forest.nodes
  pub places : length A.forest.places ≤ length B.forest.places
  pub roots : (i : ℕ) → i < length A.forest.nodes → IsRoot A.forest i → IsRoot B.forest i
