-- The places below a node, in preorder: the order of the source.
use Rattle.std.specs.Prelude.{ℕ, zero, suc, Bool, false, List, [], ◌∷◌, ◌++◌, length, Option, Some, None}
use Rattle.type_defs.specs.declared.groups.NodeType.{NodeType}
use Rattle.type_defs.specs.Groups.{is_a}
use Rattle.node_arena.specs.Forest.{Forest, node_at}
use Rattle.node_arena.specs.Reads.{kind_at, first_at, next_at}
use Rattle.collections.specs.declared.preorder.Pending.{Pending}

abbrev pub of_some : Option ℕ → (ℕ → List ℕ) → List ℕ
of_some None f = []
of_some (Some x) f = f x

-- so many places of a list from one on, each with what f tells of it behind it
unfoldable pub along : ℕ → Forest → (ℕ → List ℕ) → Option ℕ → List ℕ
along zero F f at = []
along (suc n) F f at = of_some at (λ p. p ∷ (f p ++ along n F f (next_at F p)))

-- what the slots of a node have, the first before the second; no kind has more than four
abbrev pub slots_of : (ℕ → List ℕ) → List ℕ
slots_of f = f 0 ++ (f 1 ++ (f 2 ++ f 3))

-- The places strictly below a node, to a depth. A tree is no deeper than the forest has nodes.
unfoldable pub below : ℕ → Forest → ℕ → List ℕ
below zero F j = []
below (suc d) F j = slots_of (λ k. along (length F.places) F (λ p. of_some (node_at F p) (below d F)) (first_at F j k))

-- the places strictly below a place, to a depth
abbrev pub under : Forest → ℕ → ℕ → List ℕ
under F d p = of_some (node_at F p) (below d F)

abbrev pub node_is_of : Forest → NodeType → Option ℕ → Bool
node_is_of F of None = false
node_is_of F of (Some j) = is_a (kind_at F j) of

-- a node of the type stands in the place
abbrev pub is_of : Forest → NodeType → ℕ → Bool
is_of F of p = node_is_of F of (node_at F p)

-- so many places of a list from one on, each with all below it to a depth
unfoldable pub listed : ℕ → Forest → ℕ → Option ℕ → List ℕ
listed n F d at = along n F (under F d) at

-- what waits with a list
abbrev pub rest : Forest → Pending → List ℕ
rest F w = listed (suc w.more) F w.depth (Some w.at)

-- what waits on a stack, the last first
unfoldable pub rests : Forest → List Pending → List ℕ
rests F [] = []
rests F (w ∷ ws) = rests F ws ++ rest F w
