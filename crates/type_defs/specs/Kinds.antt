-- The kinds, and the columns of their table.
use Rattle.std.specs.Prelude.{◌≢◌, ℕ, Bool, List, [], slice_index_or, map}
use denote.Enum.Declared.{tag_of}
use denote.Enum.Bare.{sameb}
use Rattle.type_defs.specs.contracts.kind.Kind.{the_type}
use Rattle.type_defs.specs.declared.kind.Kind.{Kind}
use Rattle.type_defs.specs.declared.builders.BuilderArg.{BuilderArg}
use Rattle.type_defs.specs.declared.groups.Group.{Group}
use Rattle.type_defs.specs.Rows.{in_order}
use Rattle.type_defs.specs.declared.kind_table.TheConstants.{KINDS}

unfoldable pub kinds : List Kind
kinds = map (λ row. row.0) KINDS.now

unfoldable pub names : List (List ℕ)
names = map (λ row. row.1.now) KINDS.now

unfoldable pub argument_lists : List (List BuilderArg)
argument_lists = map (λ row. row.2.now) KINDS.now

unfoldable pub group_lists : List (List Group)
group_lists = map (λ row. row.3.now) KINDS.now

-- the kind's place in the enum, from 0
abbrev pub place_of : Kind → ℕ
place_of = tag_of the_type

-- the rows stand in the order of the enum
abbrev pub are_in_order : List Kind → Bool
are_in_order = in_order the_type 0

abbrev pub name_of : Kind → List ℕ
name_of kind = slice_index_or names (place_of kind) []

-- no kind has this name
abbrev pub LacksKind : List ℕ → Type 0
LacksKind name = (kind : Kind) → name_of kind ≢ name

-- what `==` says of two kinds
abbrev pub same_kind : Kind → Kind → Bool
same_kind = sameb the_type
