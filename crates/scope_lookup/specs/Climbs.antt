-- The scope around a place, and around a scope.
use Rattle.std.specs.Prelude.{ℕ, zero, suc, Bool, true, false, length, Option, Some, None, ◌==◌, ◌&&◌, ◌||◌, not, if◌then◌else◌}
use Rattle.type_defs.specs.declared.kind.Kind.TheVariants as k
use Rattle.type_defs.specs.Kinds.{same_kind}
use Rattle.node_arena.specs.Forest.{Forest, node_at}
use Rattle.node_arena.specs.Reads.{kind_at, owner_at, place_at}
use Rattle.node_arena.specs.Store.{Store}
use Rattle.scope_lookup.specs.declared.role.Role.{Role}
use Rattle.scope_lookup.specs.declared.scope.Scope.{Scope}
use Rattle.scope_lookup.specs.declared.climbing.Around.{Around}
use Rattle.scope_lookup.specs.declared.climbing.Around.TheVariants.{Inside, Above, Nowhere}
use Rattle.scope_lookup.specs.Roles.{has_scope, is_declared, is_key, is_outside, is_own_name}
use Rattle.scope_lookup.specs.Places.{role_at, scope_kind_at, is_named, is_computed}

abbrev pub own_scope : ℕ → Scope
own_scope j = record { owner = j; name = false }

abbrev pub name_scope : ℕ → Scope
name_scope j = record { owner = j; name = true }

-- a program's scope
abbrev pub is_global : Forest → Scope → Bool
is_global F s = not s.name && same_kind (kind_at F s.owner) k.Program

abbrev pub above_place : Option ℕ → Around
above_place None = Nowhere
above_place (Some p) = Above p

-- the scope around a node is the one to which its place belongs
abbrev pub above : Forest → Option ℕ → Around
above F None = Nowhere
above F (Some j) = above_place (place_at F j)

abbrev pub owner_some : Forest → Option ℕ → Option ℕ
owner_some F None = None
owner_some F (Some p) = owner_at F p

-- the owner of the place where a node stands
abbrev pub owner_of : Forest → ℕ → Option ℕ
owner_of F j = owner_some F (place_at F j)

abbrev pub class_in : Forest → ℕ → Option ℕ → Option ℕ
class_in F member None = Some member
class_in F member (Some body) = if same_kind (kind_at F body) k.ClassBody then owner_of F body else Some member

-- the class of a member, and the member itself where it is in no class body
abbrev pub class_of : Forest → ℕ → Option ℕ
class_of F member = class_in F member (owner_of F member)

-- what a place that is no place of a name belongs to
abbrev pub inside : Forest → ℕ → Around
inside F j = if has_scope (scope_kind_at F j) then Inside (own_scope j) else (if is_named F j then Inside (name_scope j) else above F (Some j))

-- the names of declarations, computed keys and what a class extends belong outside
abbrev pub around_role : Store → ℕ → Role → Around
around_role A j role =
    if is_declared role || is_outside role then above A.forest (Some j) else
    (if is_own_name role && is_named A.forest j then Inside (name_scope j) else
    (if is_key role && is_computed A j then above A.forest (class_of A.forest j) else inside A.forest j))

abbrev pub around_owner : Store → ℕ → Option ℕ → Around
around_owner A p None = Nowhere
around_owner A p (Some j) = around_role A j (role_at A.forest p)

-- what a place belongs to, as far as its owner tells
abbrev pub around : Store → ℕ → Around
around A p = around_owner A p (owner_at A.forest p)

abbrev pub climbed : Around → (ℕ → Option Scope) → Option Scope
climbed (Inside scope) on = Some scope
climbed (Above p) on = on p
climbed Nowhere on = None

-- the scope around a place that a node has, at most so many owners up
unfoldable pub climb : ℕ → Store → ℕ → Option Scope
climb zero A p = None
climb (suc n) A p = climbed (around A p) (climb n A)

-- No node is held by itself, so a place has no more owners above it than there are nodes.
abbrev pub climb_from : Store → ℕ → Option Scope
climb_from A p = climb (suc (length A.forest.nodes)) A p

abbrev pub program_in : Forest → Option ℕ → Option Scope
program_in F None = None
program_in F (Some j) = if same_kind (kind_at F j) k.Program then Some (own_scope j) else None

-- the scope to which a place belongs; the root place belongs to the program in it
abbrev pub scope_at : Store → ℕ → Option Scope
scope_at A p = if p == 0 then program_in A.forest (node_at A.forest 0) else climb_from A p

abbrev pub climb_some : Store → Option ℕ → Option Scope
climb_some A None = None
climb_some A (Some p) = climb_from A p

-- a scope inside that of its owner's name
abbrev pub has_name_scope : Forest → Scope → Bool
has_name_scope F s = not s.name && (has_scope (scope_kind_at F s.owner) && is_named F s.owner)

-- the next outer scope
abbrev pub outer_of : Store → Scope → Option Scope
outer_of A s = if has_name_scope A.forest s then Some (name_scope s.owner) else climb_some A (place_at A.forest s.owner)
