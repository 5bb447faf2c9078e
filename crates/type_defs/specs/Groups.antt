-- The groups of kinds.
use Rattle.std.specs.Prelude.{◌≢◌, ℕ, Bool, false, List, [], ◌∷◌, ◌&&◌, ◌||◌, map, slice_index_or}
use denote.Enum.Declared.{tag_of}
use denote.Enum.Bare.{sameb}
use Rattle.type_defs.specs.contracts.groups.Group.{the_type}
use Rattle.type_defs.specs.declared.kind.Kind.{Kind}
use Rattle.type_defs.specs.declared.kind.Kind.TheVariants as k
use Rattle.type_defs.specs.declared.groups.Group.{Group}
use Rattle.type_defs.specs.declared.groups.NodeType.{NodeType}
use Rattle.type_defs.specs.declared.groups.NodeType.TheVariants as t
use Rattle.type_defs.specs.declared.groups.TheConstants.{GROUPS}
use Rattle.type_defs.specs.Rows.{in_order}
use Rattle.type_defs.specs.Kinds.{place_of, group_lists, name_of, same_kind}

unfoldable pub all_groups : List Group
all_groups = map (λ row. row.0) GROUPS.now

unfoldable pub group_names : List (List ℕ)
group_names = map (λ row. row.1.now) GROUPS.now

-- the group's place in the enum, from 0
abbrev pub group_place : Group → ℕ
group_place = tag_of the_type

-- the rows stand in the order of the enum
abbrev pub are_groups_in_order : List Group → Bool
are_groups_in_order = in_order the_type 0

abbrev pub group_name : Group → List ℕ
group_name group = slice_index_or group_names (group_place group) []

-- no group has this name
abbrev pub LacksGroup : List ℕ → Type 0
LacksGroup name = (group : Group) → group_name group ≢ name

-- what `==` says of two groups
abbrev pub same_group : Group → Group → Bool
same_group = sameb the_type

abbrev pub is_among : List Group → Group → Bool
is_among [] group = false
is_among (one ∷ more) group = same_group one group || is_among more group

-- the groups of a kind
abbrev pub groups_of : Kind → List Group
groups_of kind = slice_index_or group_lists (place_of kind) []

-- whether a group has a kind
abbrev pub belongs : Kind → Group → Bool
belongs kind group = is_among (groups_of kind) group

-- a property of a pattern counts as a property too, and a directive as an expression statement
abbrev pub stands_for : Kind → Kind → Bool
stands_for kind other =
    (same_kind kind k.AssignmentProperty && same_kind other k.Property) || (same_kind kind k.Directive && same_kind other k.ExpressionStatement)

-- whether a node of the kind is of the type
abbrev pub is_a : Kind → NodeType → Bool
is_a kind (t.Kind other) = same_kind kind other || stands_for kind other
is_a kind (t.Group group) = belongs kind group

abbrev pub type_name : NodeType → List ℕ
type_name (t.Kind kind) = name_of kind
type_name (t.Group group) = group_name group

-- no kind and no group has this name
abbrev pub LacksType : List ℕ → Type 0
LacksType name = (of : NodeType) → type_name of ≢ name
