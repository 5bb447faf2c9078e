-- Climbing from a place to the nodes that hold it.
use Rattle.std.specs.Prelude.{ℕ, zero, suc, Bool, true, false, Option, Some, None, ◌==◌, if◌then◌else◌}
use Rattle.node_arena.specs.Forest.{Forest}
use Rattle.node_arena.specs.Reads.{owner_at, place_at}

abbrev pub climb_on : (ℕ → Bool) → Option ℕ → Bool
climb_on on None = false
climb_on on (Some place) = on place

abbrev pub climb_by : Forest → ℕ → (ℕ → Bool) → Option ℕ → Bool
climb_by F node on None = false
climb_by F node on (Some owner) = if owner == node then true else climb_on on (place_at F owner)

-- whether the node is met on the way up from a place, or the way is longer than so many nodes
unfoldable pub climbs : ℕ → Forest → ℕ → ℕ → Bool
climbs zero F node place = true
climbs (suc n) F node place = climb_by F node (climbs n F node) (owner_at F place)
