-- The table of scopes: which slots hold names, and which scope a kind has (ECMA-262, 8.2).
use Rattle.std.specs.Prelude.{ℕ, Bool, true, false, List, [], Option, Some, None, map, slice_get, slice_index_or, if◌then◌else◌}
use Rattle.type_defs.specs.declared.kind.Kind.{Kind}
use Rattle.type_defs.specs.Kinds.{place_of}
use Rattle.scope_lookup.specs.declared.role.Role.{Role}
use Rattle.scope_lookup.specs.declared.role.Role.TheVariants.{Plain, OwnName, Declared, Parameter, Body, Variable, Part, Outside, Key, Word, Exported}
use Rattle.scope_lookup.specs.declared.role.ScopeKind.{ScopeKind}
use Rattle.scope_lookup.specs.declared.role.ScopeKind.TheVariants.{NoScope, Block, Lexical, Var}
use Rattle.scope_lookup.specs.declared.role.TheConstants.{SCOPES}

-- the columns of the table
unfoldable pub table_kinds : List Kind
table_kinds = map (λ row. row.0) SCOPES.now

unfoldable pub role_lists : List (List Role)
role_lists = map (λ row. row.1.now) SCOPES.now

unfoldable pub scope_kinds : List ScopeKind
scope_kinds = map (λ row. row.2) SCOPES.now

unfoldable pub computed_scalars : List (Option ℕ)
computed_scalars = map (λ row. row.3) SCOPES.now

-- the roles of a kind's first slots; those behind them are plain
abbrev pub roles_of : Kind → List Role
roles_of kind = slice_index_or role_lists (place_of kind) []

abbrev pub or_plain : Option Role → Role
or_plain None = Plain
or_plain (Some role) = role

-- the role of a kind's slot
abbrev pub role_in : Kind → ℕ → Role
role_in kind slot = or_plain (slice_get (roles_of kind) slot)

-- which scope the nodes of a kind have
abbrev pub scope_kind_of : Kind → ScopeKind
scope_kind_of kind = slice_index_or scope_kinds (place_of kind) NoScope

-- the scalar that says whether a kind's key is computed
abbrev pub computed_of : Kind → Option ℕ
computed_of kind = slice_index_or computed_scalars (place_of kind) None

abbrev pub is_own_name : Role → Bool
is_own_name OwnName = true
is_own_name _ = false

abbrev pub is_declared : Role → Bool
is_declared Declared = true
is_declared _ = false

abbrev pub is_parameter : Role → Bool
is_parameter Parameter = true
is_parameter _ = false

abbrev pub is_body : Role → Bool
is_body Body = true
is_body _ = false

abbrev pub is_variable : Role → Bool
is_variable Variable = true
is_variable _ = false

abbrev pub is_part : Role → Bool
is_part Part = true
is_part _ = false

abbrev pub is_outside : Role → Bool
is_outside Outside = true
is_outside _ = false

abbrev pub is_key : Role → Bool
is_key Key = true
is_key _ = false

abbrev pub is_word : Role → Bool
is_word Word = true
is_word _ = false

abbrev pub is_exported : Role → Bool
is_exported Exported = true
is_exported _ = false

abbrev pub has_scope : ScopeKind → Bool
has_scope NoScope = false
has_scope _ = true

abbrev pub is_var_scope : ScopeKind → Bool
is_var_scope Var = true
is_var_scope _ = false

-- a block that is a function's body has no scope of its own
abbrev pub kind_under : Role → ScopeKind → ScopeKind
kind_under role NoScope = NoScope
kind_under role Block = if is_body role then NoScope else Lexical
kind_under role Lexical = Lexical
kind_under role Var = Var
