-- What is found below paths.
use Rattle.std.specs.Prelude.{ℕ, suc, ◌-◌, ℤ, pos, negsuc, nat_lt, slice_get, if◌then◌else◌, List, [], ◌∷◌, ◌++◌, length, filter, nat_eq, Option, Some, None}
use Rattle.indexmap.specs.IndexSet.{insert_all}
use Rattle.type_defs.specs.declared.groups.NodeType.{NodeType}
use Rattle.node_arena.specs.Forest.{Forest, node_at}
use Rattle.collections.specs.Below.{of_some, below, is_of}

-- the places strictly below a path where nodes of the type stand, in preorder
abbrev pub below_path : Forest → NodeType → ℕ → List ℕ
below_path F of p = of_some (node_at F p) (λ j. filter (is_of F of) (below (length F.nodes) F j))

abbrev pub below_paths : Forest → NodeType → List ℕ → List ℕ
below_paths F of [] = []
below_paths F of (p ∷ ps) = below_path F of p ++ below_paths F of ps

-- those below all paths, a place that comes again left out
abbrev pub found_below : Forest → NodeType → List ℕ → List ℕ
found_below F of ps = insert_all nat_eq [] (below_paths F of ps)

-- the first list is the second with some places left out
pub data Picks : List ℕ → List ℕ → Type 0 where
  nothing : Picks [] []
  picked : (x : ℕ) {ys xs : List ℕ} → Picks ys xs → Picks (x ∷ ys) (x ∷ xs)
  passed : (x : ℕ) {ys xs : List ℕ} → Picks ys xs → Picks ys (x ∷ xs)

-- the item of an index, which counts from the end where it is negative
abbrev pub item_in : ℕ → ℤ → Option ℕ
item_in len (pos i) = if nat_lt i len then Some i else None
item_in len (negsuc i) = if nat_lt i len then Some (len - suc i) else None

abbrev pub alone : Option ℕ → List ℕ
alone None = []
alone (Some p) = p ∷ []

abbrev pub item_of : List ℕ → Option ℕ → Option ℕ
item_of ps None = None
item_of ps (Some i) = slice_get ps i

-- the place of an index alone
abbrev pub at_of : List ℕ → ℤ → List ℕ
at_of ps index = alone (item_of ps (item_in (length ps) index))
