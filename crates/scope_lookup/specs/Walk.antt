-- The places that declare names in a scope, in the order of the source.
use Rattle.std.specs.Prelude.{ℕ, zero, suc, Bool, List, [], ◌∷◌, ◌++◌, length, map, filter, is_some, ◌&&◌, Option, Some, None, if◌then◌else◌}
use Rattle.node_arena.specs.Forest.{node_at}
use Rattle.node_arena.specs.Reads.{first_at, next_at}
use Rattle.node_arena.specs.Store.{Store}
use Rattle.scope_lookup.specs.declared.scoping.Scoping.{Scoping}
use Rattle.scope_lookup.specs.declared.scope.Scope.{Scope}
use Rattle.scope_lookup.specs.declared.walk.Pending.{Pending}
use Rattle.scope_lookup.specs.Scopings.{name_at, is_nothing, own_scoping, scoping_below}

-- a place, and whether an Identifier in it declares its name in the scope
pub record Met : Type 0 where
  pub place : ℕ
  pub binds : Bool

abbrev pub does_bind : Store → Scoping → ℕ → Bool
does_bind A m p = m.binds && is_some (name_at A p)

abbrev pub met : Store → Scoping → ℕ → Met
met A m p = record { place = p; binds = does_bind A m p }

abbrev pub of_some : Option ℕ → (ℕ → List Met) → List Met
of_some None f = []
of_some (Some x) f = f x

-- so many places of a list from one on, each with what f tells of it behind it
unfoldable pub along : ℕ → Store → Scoping → (ℕ → List Met) → Option ℕ → List Met
along zero A m f at = []
along (suc n) A m f at = of_some at (λ p. met A m p ∷ (f p ++ along n A m f (next_at A.forest p)))

-- nothing is met where nothing is the scope's
abbrev pub if_any : Scoping → List Met → List Met
if_any m xs = if is_nothing m then [] else xs

-- what the slots of a node have, the first before the second; no kind has more than four
abbrev pub slots_of : (ℕ → List Met) → List Met
slots_of f = f 0 ++ (f 1 ++ (f 2 ++ f 3))

-- The places below a node that are met, to a depth. A tree is no deeper than the forest has nodes.
unfoldable pub below : ℕ → Store → Scoping → ℕ → List Met
below zero A m j = []
below (suc d) A m j =
    slots_of (λ k. if_any (scoping_below A j k m) (along (length A.forest.places) A (scoping_below A j k m) (λ p. of_some (node_at A.forest p) (below d A (scoping_below A j k m))) (first_at A.forest j k)))

abbrev pub under : Store → ℕ → Scoping → ℕ → List Met
under A d m p = of_some (node_at A.forest p) (below d A m)

-- so many places of a list from one on, each with all below it to a depth
unfoldable pub listed : ℕ → Store → ℕ → Scoping → Option ℕ → List Met
listed n A d m at = along n A m (under A d m) at

abbrev pub kept_list : Store → ℕ → Scoping → Option ℕ → List Met
kept_list A d m at = if_any m (listed (length A.forest.places) A d m at)

-- what is met in the slots of the scope's owner
unfoldable pub own_places : Store → Scope → List Met
own_places A s = slots_of (λ k. kept_list A (length A.forest.nodes) (own_scoping A.forest s k) (first_at A.forest s.owner k))

abbrev pub is_binding : Met → Bool
is_binding x = x.binds

abbrev pub place_of : Met → ℕ
place_of x = x.place

-- those that declare a name
abbrev pub binding_places : List Met → List ℕ
binding_places xs = map place_of (filter is_binding xs)

-- the places whose Identifiers declare their names in the scope
abbrev pub declaring : Store → Scope → List ℕ
declaring A s = binding_places (own_places A s)

-- what waits with a list
abbrev pub rest : Store → Pending → List Met
rest A w = listed (suc w.more) A w.depth w.scoping (Some w.at)

-- what waits on a stack, the last first
unfoldable pub rests : Store → List Pending → List Met
rests A [] = []
rests A (w ∷ ws) = rests A ws ++ rest A w
