-- The bindings of a scope: its names in the order of their first declaration, each with the places that declare it.
use Rattle.std.specs.Prelude.{ℕ, zero, suc, List, [], ◌∷◌, ◌++◌, fold, nat_eq, Option, Some, None, if◌then◌else◌}
use Rattle.std.specs.Cmp.Lexicographic.{pointwise}
use Rattle.node_arena.specs.Store.{Store}
use Rattle.scope_lookup.specs.declared.scope.Binding.{Binding}
use Rattle.scope_lookup.specs.declared.scope.Scope.{Scope}
use Rattle.scope_lookup.specs.Scopings.{name_at}
use Rattle.scope_lookup.specs.Walk.{declaring}

abbrev pub with_place : Binding → ℕ → Binding
with_place b p = record b { places = b.places ++ p ∷ [] }

-- one more place of a name: behind those of the name, or with the name at the end
abbrev pub bind : List Binding → List ℕ → ℕ → List Binding
bind [] name p = record { name = name; places = p ∷ [] } ∷ []
bind (b ∷ bs) name p = if pointwise nat_eq name b.name then with_place b p ∷ bs else b ∷ bind bs name p

-- one more place of the binding of this number
abbrev pub add_at : List Binding → ℕ → ℕ → List Binding
add_at [] i p = []
add_at (b ∷ bs) zero p = with_place b p ∷ bs
add_at (b ∷ bs) (suc i) p = b ∷ add_at bs i p

abbrev pub bind_some : List Binding → ℕ → Option (List ℕ) → List Binding
bind_some bs p None = bs
bind_some bs p (Some name) = bind bs name p

-- the places one after another
abbrev pub bind_all : Store → List Binding → List ℕ → List Binding
bind_all A bs ps = fold (λ done p. bind_some done p (name_at A p)) bs ps

-- the bindings of a scope
abbrev pub bindings_of : Store → Scope → List Binding
bindings_of A s = bind_all A [] (declaring A s)
