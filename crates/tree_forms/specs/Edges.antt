-- What a tree is at its left end: its level, and the comments that come to stand there. The level of a
-- member or a tagged template is 17 where its first child has that level and stands in no parentheses
-- (ECMA-262, clauses 13.2 to 13.16).
use Rattle.std.specs.Prelude.{ℕ, ◌==◌, ◌+◌, min, Bool, true, false, not, ◌&&◌, ◌||◌, List, [], ◌∷◌, Option, Some, None, if◌then◌else◌}
use Rattle.tree_core.specs.declared.comment.Comment.{Comment}
use Rattle.tree_core.specs.Syntax.{Syntax, node, Slots, no_slots, slot, Places, no_places, hole, place}
use Rattle.type_defs.specs.Groups.{is_a}
use Rattle.type_defs.specs.declared.kind.Kind.{Kind}
use Rattle.type_defs.specs.declared.groups.Group.TheVariants.{Expression}
use Rattle.type_defs.specs.declared.groups.NodeType.TheVariants.{Group}
use Rattle.js_forms.specs.Forms.{is_optional}
use Rattle.js_forms.specs.Levels.{spelled_level}
use Rattle.js_forms.specs.declared.levels.TheConstants.{CALL, MEMBER, PRIMARY}
use Rattle.js_forms.specs.declared.piece.Place.{Place}
use Rattle.js_forms.specs.declared.category.Category.{Category}
use Rattle.js_forms.specs.declared.category.Category.TheVariants as c
use Rattle.js_forms.specs.declared.form.Link.{Link}
use Rattle.js_forms.specs.declared.form.Form.{Form}
use Rattle.js_forms.specs.declared.form.Form.TheVariants as f
use Rattle.tree_forms.specs.declared.edges.Edge.{Edge}
use Rattle.tree_forms.specs.declared.variant.Variant.{Variant}
use Rattle.tree_forms.specs.Choice.{form}
use Rattle.tree_forms.specs.Slots as slots
use Rattle.tree_forms.specs.Slots.{begins_bare}

-- an expression in the place may stand in parentheses
abbrev pub takes_groups : Category → Bool
takes_groups c.Expression = true
takes_groups c.Cover = true
takes_groups c.Argument = true
takes_groups c.Element = true
takes_groups c.Callee = true
takes_groups c.Target = true
takes_groups c.Assigned = true
takes_groups c.AssignedValue = true
takes_groups c.AssignedElement = true
takes_groups c.Operand = true
takes_groups c.ArrowBody = true
takes_groups c.ForInit = true
takes_groups c.ForLeft = true
takes_groups _ = false

-- the link of a member or a call
abbrev pub link_in : Form → Option Link
link_in (f.Dot link) = Some link
link_in (f.Index link) = Some link
link_in (f.Call link) = Some link
link_in _ = None

abbrev pub below_links : Option Edge → ℕ
below_links (Some first) = first.links
below_links None = 0

-- over so many links
abbrev pub links_with : Option Link → ℕ → ℕ
links_with None below = 0
links_with (Some link) below = if below == 0 then (if is_optional link then 1 else 0) else min (below + 1) 4294967295

abbrev pub link_of : Option Variant → Option Link
link_of (Some v) = link_in v.form
link_of None = None

-- how many links of a chain go from a node of the form, over this first child, down to the lowest that
-- is optional and bare
abbrev pub links_over : Option Variant → Option Edge → ℕ
links_over v below = links_with (link_of v) (below_links below)

abbrev pub slot_groups : Option Place → Edge → Bool
slot_groups (Some at) edge = takes_groups at.category && edge.groups
slot_groups None edge = false

-- the first child of the form, with this edge, may stand in parentheses
abbrev pub first_groups : Variant → Edge → Bool
first_groups v edge = slot_groups (slots.slot v 0) edge

-- the level of a member or a tagged template
abbrev pub member_level : Variant → Option Edge → ℕ
member_level v (Some first) = if (first.level == CALL) && not (first.noted && first_groups v first) then CALL else MEMBER
member_level v None = MEMBER

abbrev pub is_member : Form → Bool
is_member (f.Dot _) = true
is_member (f.Index _) = true
is_member f.Tagged = true
is_member _ = false

abbrev pub level_over : Variant → Option Edge → ℕ
level_over v below = if is_member v.form then member_level v below else spelled_level v.form v.spelling

-- the comments before the first child come to stand before the node
abbrev pub rises : Variant → Option Edge → Bool
rises v (Some first) = begins_bare v && (first.noted && not (first_groups v first))
rises v None = false

abbrev pub has_any : List Comment → Bool
has_any [] = false
has_any (comment ∷ more) = true

abbrev pub is_expression : Kind → Bool
is_expression kind = is_a kind (Group Expression)

abbrev pub level_of : Option Variant → Option Edge → ℕ
level_of (Some v) below = level_over v below
level_of None below = PRIMARY

abbrev pub rises_of : Option Variant → Option Edge → Bool
rises_of (Some v) below = rises v below
rises_of None below = false

-- the edge of a node of this kind with these comments before it, over this first child
abbrev pub edge_over : Option Variant → Kind → List Comment → Option Edge → Edge
edge_over v kind lead below = record { level = level_of v below; links = links_over v below; groups = is_expression kind && (links_over v below == 0); noted = has_any lead || rises_of v below }

abbrev mutual
  -- the left end of the tree
  pub left_end : Syntax → Edge
  left_end (node kind found slots notes from) = edge_over (form c.Expression (node kind found slots notes from)) kind notes.lead (first_edge slots)

  pub first_edge : Slots → Option Edge
  first_edge no_slots = None
  first_edge (slot list places more) = places_edge places

  pub places_edge : Places → Option Edge
  places_edge no_places = None
  places_edge (hole name more) = None
  places_edge (place name x more) = Some (left_end x)

-- the level of the expression in made text
abbrev pub level : Syntax → ℕ
level x = (left_end x).level
