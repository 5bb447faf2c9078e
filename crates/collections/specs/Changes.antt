-- Changes at the paths of a collection, one after another.
use Rattle.std.specs.Prelude.{◌≡◌, ◌≢◌, ◌↔◌, ◌<◌, ℕ, true, false, List, [], ◌∷◌, Some, slice_get, take}
use Rattle.node_arena.specs.declared.state.PlaceState.TheVariants.{Listed, Out}
use Rattle.node_arena.specs.Reads.{state_at}
use Rattle.node_arena.specs.Store.{Store, changed, reserved}
use Rattle.ast_paths.specs.declared.fault.PathFault.{PathFault}
use Rattle.ast_paths.specs.declared.fault.PathFault.TheVariants as f
use Rattle.ast_paths.specs.Paths.{KeepsFilled, KeepsIds, prune_of, takes_nodes}

-- so many nodes come into a place that takes them: no id goes, and where some come no place is left empty
pub record Replaced (count : ℕ) (A : Store) (p : ℕ) (B : Store) : Type 0 where
  pub takes : takes_nodes (state_at A.forest p) count ≡ true
  pub ids : KeepsIds A.forest B.forest
  pub filled : 0 < count → KeepsFilled A.forest B.forest

abbrev pub TakesNone : ℕ → Store → ℕ → Type 0
TakesNone count A p = takes_nodes (state_at A.forest p) count ≡ false

-- nodes come in beside a place of a list: no id goes, and no place is left empty
pub record Inserted (A : Store) (p : ℕ) (B : Store) : Type 0 where
  pub listed : state_at A.forest p ≡ Listed
  pub ids : KeepsIds A.forest B.forest
  pub filled : KeepsFilled A.forest B.forest

abbrev pub IsUnlisted : Store → ℕ → Type 0
IsUnlisted A p = state_at A.forest p ≢ Listed

-- what stands in a place goes, with its owner where that is nothing without it
pub record Removed (A : Store) (p : ℕ) (B : Store) : Type 0 where
  pub within : state_at A.forest p ≢ Out
  pub after : B ≡ changed A (prune_of A.forest p)

abbrev pub IsOut : Store → ℕ → Type 0
IsOut A p = state_at A.forest p ≡ Out

-- the changes at the places, one after another, lead from one arena to the other
pub data Made (Change : Store → ℕ → Store → Type 0) : Store → List ℕ → Store → Type 0 where
  unchanged : (A : Store) → Made Change A [] A
  change : {A B C : Store} {ps : List ℕ} (p : ℕ) → Change A p B → Made Change B ps C → Made Change A (p ∷ ps) C

-- a refusal at one of the places: what the changes at the places before it alone lead to is left
pub record Stopped (Change : Store → ℕ → Store → Type 0) (Refuses : Store → ℕ → Type 0) (A : Store) (ps : List ℕ) (fault : PathFault) (B : Store) : Type 0 where
  pub count : ℕ
  pub place : ℕ
  pub is : slice_get ps count ≡ Some place
  pub left : Store
  pub made : Made Change A (take count ps) left
  pub kept : B ≡ reserved left B.spare
  pub listed : fault ≡ f.NotInList ↔ Refuses left place
  pub field : fault ≢ f.NoField
