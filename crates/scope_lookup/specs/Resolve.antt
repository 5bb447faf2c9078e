-- The scope and the place that declare a name.
use Rattle.std.specs.Prelude.{ℕ, zero, suc, ◌*◌, Bool, true, false, List, [], ◌∷◌, length, nat_eq, not, Option, Some, None, if◌then◌else◌}
use Rattle.std.specs.Cmp.Lexicographic.{pointwise}
use Rattle.node_arena.specs.Forest.{Forest}
use Rattle.node_arena.specs.Reads.{first_at, owner_at, place_at}
use Rattle.node_arena.specs.Store.{Store}
use Rattle.scope_lookup.specs.declared.role.Role.{Role}
use Rattle.scope_lookup.specs.declared.scope.Scope.{Scope}
use Rattle.scope_lookup.specs.declared.resolving.Found.{Found}
use Rattle.scope_lookup.specs.Roles.{is_exported, is_key, is_word}
use Rattle.scope_lookup.specs.Places.{role_at, is_computed, is_filled}
use Rattle.scope_lookup.specs.Climbs.{outer_of, scope_at}
use Rattle.scope_lookup.specs.Scopings.{name_at}
use Rattle.scope_lookup.specs.Walk.{declaring}

abbrev pub is_name : List ℕ → Option (List ℕ) → Bool
is_name name None = false
is_name name (Some own) = pointwise nat_eq own name

-- the first of these places whose Identifier has the name
unfoldable pub first_named : Store → List ℕ → List ℕ → Option ℕ
first_named A name [] = None
first_named A name (p ∷ ps) = if is_name name (name_at A p) then Some p else first_named A name ps

-- the first place that declares the name in the scope itself
abbrev pub declaration : Store → List ℕ → Scope → Option ℕ
declaration A name s = first_named A name (declaring A s)

abbrev pub outside : Option Scope → (Scope → Option Found) → Option Found
outside None on = None
outside (Some s) on = on s

abbrev pub here_or : Scope → Option ℕ → Option Found → Option Found
here_or s (Some p) next = Some (record { scope = s; place = p })
here_or s None next = next

-- the first scope outwards that declares the name, and the place; at most so many scopes are asked
unfoldable pub find_in : ℕ → Store → List ℕ → Scope → Option Found
find_in zero A name s = None
find_in (suc n) A name s = here_or s (declaration A name s) (outside (outer_of A s) (find_in n A name))

-- A node has at most two scopes.
abbrev pub find_from : Store → List ℕ → Scope → Option Found
find_from A name s = find_in (2 * length A.forest.nodes) A name s

abbrev pub scope_of_found : Option Found → Option Scope
scope_of_found None = None
scope_of_found (Some f) = Some f.scope

abbrev pub place_of_found : Option Found → Option ℕ
place_of_found None = None
place_of_found (Some f) = Some f.place

-- the first scope that declares the name, from this one outwards
abbrev pub lookup_of : Store → Scope → List ℕ → Option Scope
lookup_of A s name = scope_of_found (find_from A name s)

abbrev pub lacks_source : Forest → Option ℕ → Bool
lacks_source F None = true
lacks_source F (Some export) = not (is_filled F (first_at F export 2))

abbrev pub listed_own : Forest → Option ℕ → Bool
listed_own F None = true
listed_own F (Some p) = lacks_source F (owner_at F p)

abbrev pub specified_own : Forest → Option ℕ → Bool
specified_own F None = false
specified_own F (Some specifier) = listed_own F (place_at F specifier)

-- the place of an export specifier is in an export without a source
abbrev pub exports_own : Forest → ℕ → Bool
exports_own F p = specified_own F (owner_at F p)

abbrev pub key_used : Store → Option ℕ → Bool
key_used A None = false
key_used A (Some j) = is_computed A j

abbrev pub used_by_role : Store → ℕ → Role → Bool
used_by_role A p role =
    if is_exported role then exports_own A.forest p else (if is_key role then key_used A (owner_at A.forest p) else not (is_word role))

-- an Identifier in the place is looked up: an expression, a target, a declaration, or what an export without source exports
abbrev pub is_reference : Store → ℕ → Bool
is_reference A p = used_by_role A p (role_at A.forest p)

abbrev pub resolve_in : Store → List ℕ → Option Scope → Option ℕ
resolve_in A name None = None
resolve_in A name (Some s) = place_of_found (find_from A name s)

abbrev pub resolve_named : Store → ℕ → Option (List ℕ) → Option ℕ
resolve_named A p None = None
resolve_named A p (Some name) = if is_reference A p then resolve_in A name (scope_at A p) else None

-- the first declaring place of the Identifier in a place
abbrev pub resolve_of : Store → ℕ → Option ℕ
resolve_of A p = resolve_named A p (name_at A p)
