-- What an arena is: a forest, and beside it what its nodes say and how its places are named.
use Rattle.std.specs.Prelude.{◌≡◌, ℕ, ◌+◌, ◌-◌, ◌*◌, ◌<◌, ◌≤◌, ◌⊎◌, ◌^◌, List, [], ◌∷◌, ◌++◌, length, map, Option, Some, None, slice_get, slice_set, replicate, count_by, not}
use Rattle.tree_core.specs.declared.scalars.Scalar.{Scalar}
use Rattle.tree_core.specs.declared.scalars.Scalar.TheVariants.{Null}
use Rattle.tree_core.specs.declared.comment.Comment.{Comment}
use Rattle.tree_core.specs.declared.tree.PlaceName.{PlaceName}
use Rattle.type_defs.specs.declared.kind.Kind.{Kind}
use Rattle.type_defs.specs.Fields.{lists_at, scalar_count}
use Rattle.node_arena.specs.declared.links.Node.{Node}
use Rattle.node_arena.specs.declared.payload.Facts.{Facts}
use Rattle.node_arena.specs.Rows.{edit}
use Rattle.node_arena.specs.Forest.{Forest, Linked, make_of, start_forest}
use Rattle.node_arena.specs.Reads.{kind_at}
use Rattle.node_arena.specs.Payload.{Said, no_facts, copied_facts, scalars_from, first_in, scalar_number, commented, coming_from, lead_in, trail_in, inner_in, from_in, name_in}

-- each node has its facts, and its scalars one after another from a number on; each place has a
-- name or none; and there is memory for `spare` new nodes or places
pub record Store : Type 0 where
  pub forest : Forest
  pub facts : List Facts
  pub scalars : List Scalar
  pub names : List (Option PlaceName)
  pub spare : ℕ

abbrev pub store_of : Linked → Said → Store
store_of a p = record { forest = a.forest; facts = p.facts; scalars = p.scalars; names = p.names; spare = a.spare }

abbrev pub kind_of : Node → Kind
kind_of m = m.kind

pub record IsStore (a : Linked) (p : Said) : Type 0 where
  pub facts : length p.facts ≡ length a.forest.nodes
  pub names : length p.names ≡ length a.forest.places
  pub scalars : (j : ℕ) (kind : Kind) (f : Facts) → slice_get (map kind_of a.forest.nodes) j ≡ Some kind → slice_get p.facts j ≡ Some f → f.first_scalar + scalar_count kind ≤ length p.scalars
  pub few : length p.scalars ≤ 4 * length a.forest.nodes
  pub spare : a.spare ≤ p.spare

-- how many places a new node of a kind has
abbrev pub single_count : Kind → ℕ
single_count kind = count_by not (lists_at kind)

-- a new node of a kind that says nothing yet
abbrev pub make_in : Store → Kind → Store
make_in A kind = record {
  forest = make_of A.forest kind;
  facts = A.facts ++ no_facts (length A.scalars) ∷ [];
  scalars = A.scalars ++ replicate (scalar_count kind) Null;
  names = A.names ++ replicate (single_count kind) None;
  spare = A.spare - 1;
}

-- a new node of a node's kind that says what it says
abbrev pub copied_as : Store → ℕ → Kind → Store
copied_as A node kind = record {
  forest = make_of A.forest kind;
  facts = A.facts ++ copied_facts (length A.scalars) (slice_get A.facts node) ∷ [];
  scalars = A.scalars ++ scalars_from A.scalars (first_in (slice_get A.facts node)) (scalar_count kind);
  names = A.names ++ replicate (single_count kind) None;
  spare = A.spare - 1;
}

abbrev pub copied_in : Store → ℕ → Store
copied_in A node = copied_as A node (kind_at A.forest node)

-- the nodes or the places would be too many
abbrev pub IsFullFor : Store → Kind → Type 0
IsFullFor A kind = (2 ^ 22 ≤ length A.forest.nodes) ⊎ (2 ^ 26 < length A.forest.places + single_count kind)

-- another forest of the same nodes and places
abbrev pub changed : Store → Forest → Store
changed A F = record A { forest = F }

-- another forest, with one place more, which has no name
abbrev pub placed : Store → Forest → Store
placed A F = record A { forest = F; names = A.names ++ None ∷ []; spare = A.spare - 1 }

abbrev pub reserved : Store → ℕ → Store
reserved A n = record A { spare = n }

-- the number of a node's scalar among all
abbrev pub scalar_at : Store → ℕ → ℕ → ℕ
scalar_at A node index = scalar_number A.facts node index

-- what a node says
abbrev pub lead_at : Store → ℕ → List Comment
lead_at A node = lead_in (slice_get A.facts node)

abbrev pub trail_at : Store → ℕ → List Comment
trail_at A node = trail_in (slice_get A.facts node)

abbrev pub inner_at : Store → ℕ → List Comment
inner_at A node = inner_in (slice_get A.facts node)

abbrev pub from_at : Store → ℕ → Option ℕ
from_at A node = from_in (slice_get A.facts node)

-- the name of a place
abbrev pub name_at : Store → ℕ → Option PlaceName
name_at A place = name_in (slice_get A.names place)

abbrev pub with_scalar : Store → ℕ → ℕ → Scalar → Store
with_scalar A node index value = record A { scalars = slice_set A.scalars (scalar_at A node index) value }

abbrev pub with_comments : Store → ℕ → List Comment → List Comment → List Comment → Store
with_comments A node lead trail inner = record A { facts = edit A.facts node (commented lead trail inner) }

abbrev pub with_source : Store → ℕ → ℕ → Store
with_source A node from = record A { facts = edit A.facts node (coming_from from) }

abbrev pub with_name : Store → ℕ → PlaceName → Store
with_name A place name = record A { names = slice_set A.names place (Some name) }

-- the empty root place alone
abbrev pub start_store : Store
start_store = record { forest = start_forest; facts = []; scalars = []; names = None ∷ []; spare = 0 }
