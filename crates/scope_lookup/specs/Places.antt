-- What nodes and places are to scopes.
use Rattle.std.specs.Prelude.{ℕ, ◌<◌, length, Bool, false, Option, Some, None, slice_get, nat_lt, is_some, ◌&&◌, ◌||◌, if◌then◌else◌}
use Rattle.tree_core.specs.declared.scalars.Scalar.{Scalar}
use Rattle.tree_core.specs.declared.scalars.Scalar.TheVariants.{Truth}
use Rattle.type_defs.specs.Fields.{scalar_count}
use Rattle.node_arena.specs.Forest.{Forest, node_at}
use Rattle.node_arena.specs.Reads.{kind_at, owner_at, index_at, place_at, first_at}
use Rattle.node_arena.specs.Store.{Store, scalar_at}
use Rattle.scope_lookup.specs.declared.role.Role.{Role}
use Rattle.scope_lookup.specs.declared.role.Role.TheVariants.{Plain}
use Rattle.scope_lookup.specs.declared.role.ScopeKind.{ScopeKind}
use Rattle.scope_lookup.specs.declared.climbing.Around.{Around}
use Rattle.scope_lookup.specs.declared.climbing.Around.TheVariants as around
use Rattle.scope_lookup.specs.Roles.{role_in, scope_kind_of, computed_of, kind_under, has_scope, is_own_name}

abbrev pub role_between : Forest → Option ℕ → Option ℕ → Role
role_between F (Some owner) (Some slot) = role_in (kind_at F owner) slot
role_between F _ _ = Plain

-- the role of a place in its owner
abbrev pub role_at : Forest → ℕ → Role
role_at F p = role_between F (owner_at F p) (index_at F p)

abbrev pub role_some : Forest → Option ℕ → Role
role_some F None = Plain
role_some F (Some p) = role_at F p

-- which scope a node has
abbrev pub scope_kind_at : Forest → ℕ → ScopeKind
scope_kind_at F j = kind_under (role_some F (place_at F j)) (scope_kind_of (kind_at F j))

abbrev pub is_filled : Forest → Option ℕ → Bool
is_filled F None = false
is_filled F (Some p) = is_some (node_at F p)

-- a function or class expression with a name
abbrev pub is_named : Forest → ℕ → Bool
is_named F j = is_own_name (role_in (kind_at F j) 0) && is_filled F (first_at F j 0)

-- the nodes that have scopes
abbrev pub is_scope : Forest → ℕ → Bool
is_scope F j = has_scope (scope_kind_at F j) || is_named F j

abbrev pub is_truth : Option Scalar → Bool
is_truth (Some (Truth b)) = b
is_truth _ = false

abbrev pub truth_some : Store → ℕ → Option ℕ → Bool
truth_some A j None = false
truth_some A j (Some index) = if nat_lt index (scalar_count (kind_at A.forest j)) then is_truth (slice_get A.scalars (scalar_at A j index)) else false

-- the node's key is computed
abbrev pub is_computed : Store → ℕ → Bool
is_computed A j = truth_some A j (computed_of (kind_at A.forest j))

-- the node or place that a step of the climb names is one of the forest
abbrev pub AroundIn : Forest → Around → Type 0
AroundIn F (around.Inside scope) = scope.owner < length F.nodes
AroundIn F (around.Above place) = place < length F.places
AroundIn F around.Nowhere = Unit {0}
