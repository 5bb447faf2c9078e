-- What each field of a kind takes.
use Rattle.std.specs.Prelude.{ℕ, Bool, true, false, List, [], Option, Some, None, ◌&&◌, ◌||◌, not, map, slice_index_or}
use Rattle.std.specs.List.{list_any}
use denote.Enum.Declared.{tag_of}
use Rattle.node_builders.specs.contracts.takes.Takes.{the_type}
use Rattle.type_defs.specs.declared.kind.Kind.{Kind}
use Rattle.type_defs.specs.declared.groups.Group.{Group}
use Rattle.type_defs.specs.Rows.{in_order}
use Rattle.type_defs.specs.Kinds.{place_of, same_kind}
use Rattle.type_defs.specs.Groups.{belongs}
use Rattle.node_builders.specs.declared.takes.Takes.{Takes}
use Rattle.node_builders.specs.declared.takes.Takes.TheVariants as t
use Rattle.node_builders.specs.declared.takes.TheConstants.{TAKES}
use Rattle.node_builders.specs.declared.field_table.TheConstants.{FIELD_TAKES}

-- the columns of the two tables
unfoldable pub field_kinds : List Kind
field_kinds = map (λ row. row.0) FIELD_TAKES.now

unfoldable pub takes_lists : List (List Takes)
takes_lists = map (λ row. row.1.now) FIELD_TAKES.now

unfoldable pub all_takes : List Takes
all_takes = map (λ row. row.0) TAKES.now

unfoldable pub groups : List (Option Group)
groups = map (λ row. row.1) TAKES.now

unfoldable pub except_lists : List (List Kind)
except_lists = map (λ row. row.2.now) TAKES.now

unfoldable pub other_lists : List (List Kind)
other_lists = map (λ row. row.3.now) TAKES.now

-- the rows stand in the order of the enum
abbrev pub are_takes_in_order : List Takes → Bool
are_takes_in_order = in_order the_type 0

-- what each field of the kind takes
abbrev pub takes_of : Kind → List Takes
takes_of kind = slice_index_or takes_lists (place_of kind) []

-- its place in the enum, from 0
abbrev pub takes_place : Takes → ℕ
takes_place = tag_of the_type

-- the group that it takes, but for some kinds
abbrev pub group_of : Takes → Option Group
group_of takes = slice_index_or groups (takes_place takes) None

abbrev pub except_of : Takes → List Kind
except_of takes = slice_index_or except_lists (takes_place takes) []

-- the kinds that it takes beside the group
abbrev pub others_of : Takes → List Kind
others_of takes = slice_index_or other_lists (takes_place takes) []

abbrev pub has : List Kind → Kind → Bool
has kinds kind = list_any (λ other. same_kind other kind) kinds

abbrev pub in_group : Option Group → List Kind → Kind → Bool
in_group None except kind = false
in_group (Some group) except kind = belongs kind group && not (has except kind)

-- it takes nodes of the kind
abbrev pub accepts : Takes → Kind → Bool
accepts takes kind = has (others_of takes) kind || in_group (group_of takes) (except_of takes) kind

-- places of the list may be empty
abbrev pub has_holes : Takes → Bool
has_holes t.Element = true
has_holes t.PatternItem = true
has_holes _ = false
