-- What of the places below a scope's owner is the scope's (ECMA-262, 8.2: lexically scoped and var-scoped declarations).
use Rattle.std.specs.Prelude.{ℕ, Bool, true, false, List, Option, Some, None, slice_get, nat_eq, codes, not, ◌&&◌, ◌||◌, if◌then◌else◌}
use Rattle.std.specs.Cmp.Lexicographic.{pointwise}
use Rattle.tree_core.specs.declared.scalars.Scalar.{Scalar}
use Rattle.tree_core.specs.declared.scalars.Scalar.TheVariants.{Text}
use Rattle.type_defs.specs.declared.kind.Kind.TheVariants as k
use Rattle.type_defs.specs.Kinds.{same_kind}
use Rattle.type_defs.specs.Fields.{scalar_count}
use Rattle.node_arena.specs.Forest.{Forest, node_at}
use Rattle.node_arena.specs.Reads.{kind_at}
use Rattle.node_arena.specs.Store.{Store, scalar_at}
use Rattle.scope_lookup.specs.declared.scoping.Scoping.{Scoping}
use Rattle.scope_lookup.specs.declared.role.Role.{Role}
use Rattle.scope_lookup.specs.declared.role.ScopeKind.{ScopeKind}
use Rattle.scope_lookup.specs.declared.role.ScopeKind.TheVariants.{NoScope, Block, Lexical, Var}
use Rattle.scope_lookup.specs.declared.scope.Scope.{Scope}
use Rattle.scope_lookup.specs.Roles.{role_in, has_scope, is_declared, is_own_name, is_parameter, is_part, is_variable, is_var_scope}
use Rattle.scope_lookup.specs.Places.{scope_kind_at}

abbrev pub text_in : Option Scalar → Option (List ℕ)
text_in (Some (Text text)) = Some text
text_in _ = None

-- the first scalar of a node, where it is a text
abbrev pub text_of : Store → ℕ → Option (List ℕ)
text_of A j = if nat_eq (scalar_count (kind_at A.forest j)) 0 then None else text_in (slice_get A.scalars (scalar_at A j 0))

abbrev pub name_some : Store → Option ℕ → Option (List ℕ)
name_some A None = None
name_some A (Some j) = if same_kind (kind_at A.forest j) k.Identifier then text_of A j else None

-- the name of the Identifier in a place
abbrev pub name_at : Store → ℕ → Option (List ℕ)
name_at A p = name_some A (node_at A.forest p)

abbrev pub nothing : Scoping
nothing = record { binds = false; lexical = false; hoisted = false }

abbrev pub is_nothing : Scoping → Bool
is_nothing m = (not m.binds && not m.lexical) && not m.hoisted

abbrev pub binding : Bool → Scoping → Scoping
binding b m = record m { binds = b }

abbrev pub blocked : Scoping → Scoping
blocked m = record m { lexical = false }

abbrev pub own_plain : Bool → ScopeKind → Scoping
own_plain binds kind = record { binds = binds; lexical = true; hoisted = is_var_scope kind }

-- names of its own and of the scope around it stand in none of the owner's scope
abbrev pub own_by_role : Role → ScopeKind → Scoping
own_by_role role kind = if is_own_name role || is_declared role then nothing else own_plain (is_parameter role) kind

abbrev pub own_by_kind : ScopeKind → Role → Scoping
own_by_kind kind role = if has_scope kind then own_by_role role kind else nothing

-- what is the scope's own in a slot of its owner
abbrev pub own_scoping : Forest → Scope → ℕ → Scoping
own_scoping F scope slot =
    if scope.name then binding (is_own_name (role_in (kind_at F scope.owner) slot)) nothing else own_by_kind (scope_kind_at F scope.owner) (role_in (kind_at F scope.owner) slot)

-- what of the scope goes into a node that has a scope itself
abbrev pub within : Scoping → ScopeKind → Scoping
within m NoScope = m
within m Block = blocked m
within m Lexical = blocked m
within m Var = nothing

abbrev pub says : List ℕ → List ℕ → Bool
says text word = pointwise nat_eq text word

-- `var` goes to the nearest function, static block or program, `let` and `const` to the nearest scope
abbrev pub declares : Scoping → Option (List ℕ) → Bool
declares m None = false
declares m (Some text) =
    if says text (codes "var") then m.hoisted else (if says text (codes "let") || says text (codes "const") then m.lexical else false)

abbrev pub scoping_by_role : Store → ℕ → Scoping → Role → Scoping
scoping_by_role A j m role =
    if is_declared role then binding m.lexical m else
    (if is_own_name role then binding false m else
    (if is_part role then m else
    (if is_variable role then binding (declares m (text_of A j)) m else binding false (within m (scope_kind_at A.forest j)))))

-- what is the scope's in a slot of a node below its owner, where m is what is in the node
abbrev pub scoping_below : Store → ℕ → ℕ → Scoping → Scoping
scoping_below A j slot m = scoping_by_role A j m (role_in (kind_at A.forest j) slot)
