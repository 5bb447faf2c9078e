-- The nearest places above places.
use Rattle.std.specs.Prelude.{ℕ, zero, suc, Bool, List, [], ◌∷◌, ◌++◌, length, nat_eq, if◌then◌else◌, Option, Some, None}
use Rattle.indexmap.specs.IndexSet.{insert_all}
use Rattle.node_arena.specs.Forest.{Forest}
use Rattle.ast_paths.specs.Paths.{parent_at}
use Rattle.collections.specs.Found.{alone}

abbrev pub nearest_some : (ℕ → Bool) → (ℕ → Option ℕ) → Option ℕ → Option ℕ
nearest_some fits above None = None
nearest_some fits above (Some q) = if fits q then Some q else above q

-- the first of so many places above a place, from the lowest on, that fits
unfoldable pub nearest_in : ℕ → Forest → (ℕ → Bool) → ℕ → Option ℕ
nearest_in zero F fits p = None
nearest_in (suc n) F fits p = nearest_some fits (nearest_in n F fits) (parent_at F p)

-- the nearest place above a place that fits; no place has more above it than the forest has nodes
abbrev pub nearest : Forest → (ℕ → Bool) → ℕ → Option ℕ
nearest F fits p = nearest_in (length F.nodes) F fits p

abbrev pub nearest_each : Forest → (ℕ → Bool) → List ℕ → List ℕ
nearest_each F fits [] = []
nearest_each F fits (p ∷ ps) = alone (nearest F fits p) ++ nearest_each F fits ps

-- that of each path, a place that comes again left out
abbrev pub nearest_all : Forest → (ℕ → Bool) → List ℕ → List ℕ
nearest_all F fits ps = insert_all nat_eq [] (nearest_each F fits ps)
