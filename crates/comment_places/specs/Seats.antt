-- Where the comments of a tree stand. The gaps of a node lie before, between and behind its children
-- that are there. A gap at an end is bare where the form has no word outside the child there; a `;`
-- that may be missing counts as a word. Where parentheses may not stand around that child, the comments
-- of the gap belong to the parent's gap on that side, and so on upwards.
use Rattle.std.specs.Prelude.{◌≡◌, take, ℕ, zero, suc, ◌==◌, Bool, true, false, not, ◌&&◌, ◌||◌, if◌then◌else◌, List, [], ◌∷◌, ◌++◌, map, length, Option, Some, None, min}
use Rattle.tree_core.specs.declared.comment.Comment.{Comment}
use Rattle.tree_core.specs.Height.{height}
use Rattle.tree_core.specs.Notes.{Notes}
use Rattle.tree_core.specs.Syntax.{Syntax, node}
use Rattle.type_defs.specs.declared.kind.Kind.TheVariants as k
use Rattle.js_forms.specs.declared.category.Category.{Category}
use Rattle.js_forms.specs.declared.category.Category.TheVariants as c
use Rattle.js_forms.specs.declared.form.Form.{Form}
use Rattle.js_forms.specs.declared.form.Form.TheVariants as f
use Rattle.comment_places.specs.declared.seating.Gap.{Gap}
use Rattle.comment_places.specs.declared.seating.Seat.{Seat}
use Rattle.comment_places.specs.declared.seating.Sides.{Sides}
use Rattle.comment_places.specs.declared.seating.Turn.{Turn}
use Rattle.tree_forms.specs.declared.variant.Variant.{Variant}
use Rattle.comment_places.specs.Children.{Kid, children, next, is_template, is_template_form}
use Rattle.tree_forms.specs.Choice.{form}
use Rattle.tree_forms.specs.Edges.{left_end, takes_groups}
use Rattle.tree_forms.specs.Slots.{begins_bare, ends_bare, pieces_of, spells_at_most}
use Rattle.tree_forms.specs.Reading.{child}

-- parentheses may stand around the child
abbrev pub groups : Kid → Bool
groups kid = takes_groups kid.category && (left_end kid.tree).groups

abbrev pub begins : Option Variant → Bool
begins (Some v) = begins_bare v
begins None = false

abbrev pub ends : Option Variant → ℕ → Bool
ends (Some v) number = ends_bare v number
ends None number = false

-- the comments before the child belong to the gap before the node
abbrev pub rises : Option Variant → Turn → Kid → Bool
rises v turn kid = (turn.gap == 0) && (begins v && not (groups kid))

-- the comments behind the child belong to the gap behind the node
abbrev pub falls : Option Variant → Turn → Kid → Bool
falls v turn kid = turn.last && (ends v kid.slot_number && not (groups kid))

-- a gap of the node at these steps
pub record At : Type 0 where
  pub steps : List ℕ
  pub gap : ℕ

-- the gaps to which comments before and behind a node belong
pub record Around : Type 0 where
  pub before : At
  pub behind : At

-- a gap of a node on the path
abbrev pub gap_view : List ℕ → Gap → At
gap_view path g = record { steps = take g.depth path; gap = g.gap }

abbrev pub sides_view : List ℕ → Sides → Around
sides_view path s = record { before = gap_view path s.before; behind = gap_view path s.behind }

-- a child in the first place of the first slot is what stands there in the tree
abbrev pub StandsFirst : Syntax → Kid → Type 0
StandsFirst x kid = kid.slot_number ≡ 0 → kid.number ≡ 0 → child 0 x ≡ Some kid.tree

-- the gaps beside a child of the node at these steps
abbrev pub around : Option Variant → List ℕ → Around → Turn → Kid → Around
around v steps sides turn kid = record {
  before = if rises v turn kid then sides.before else record { steps = steps; gap = turn.gap };
  behind = if falls v turn kid then sides.behind else record { steps = steps; gap = next turn.gap };
}

abbrev pub is_program : Syntax → Bool
is_program (node k.Program found slots notes from) = true
is_program _ = false

-- comments may stand before the child: not before the first characters of a template
abbrev pub has_leads : Option Variant → Turn → Syntax → Bool
has_leads v turn x = not (is_template v && (turn.gap == 0)) && not (is_program x)

-- comments may stand behind the child: not behind the last characters of a template
abbrev pub has_trails : Option Variant → Turn → Syntax → Bool
has_trails v turn x = not (is_template v && turn.last) && not (is_program x)

abbrev pub lacks : Option Syntax → Bool
lacks (Some x) = false
lacks None = true

-- what stands there is one token: no default
abbrev pub is_short : Option Syntax → Bool
is_short (Some (node k.AssignmentPattern found slots notes from)) = false
is_short _ = true

-- of one name for two children the other is one token; a template has no expressions
abbrev pub is_single_form : Form → Syntax → Bool
is_single_form form x = if is_template_form form then lacks (child 1 x) else is_short (child 1 x)

-- the node is spelled by one token or by none, so that no comment stands inside
abbrev pub is_token : Variant → Syntax → Bool
is_token v x = spells_at_most (is_single_form v.form x) v.form (pieces_of v) 1

abbrev pub has_inner : Option Variant → Syntax → Bool
has_inner (Some v) x = not (is_token v x)
has_inner None x = true

abbrev pub notes_of : Syntax → Notes
notes_of (node kind found slots notes from) = notes

abbrev pub seat : At → Comment → Seat
seat at comment = record { address = at.steps; gap = at.gap; comment = comment }

abbrev pub seats_at : At → List Comment → List Seat
seats_at at comments = map (seat at) comments

-- what is told of a tree, by the category of its place, its address, and the gaps beside it
abbrev pub Telling : Type 0
Telling = Category → List ℕ → Around → Syntax → List Seat

-- the comments before a child, in it and behind it
abbrev pub of_kid : Telling → Option Variant → List ℕ → Around → Turn → Kid → List Seat
of_kid tell v steps beside turn kid =
    (if has_leads v turn kid.tree then seats_at beside.before (notes_of kid.tree).lead else [])
    ++ (tell kid.category (steps ++ kid.number ∷ []) beside kid.tree
    ++ (if has_trails v turn kid.tree then seats_at beside.behind (notes_of kid.tree).trail else []))

abbrev pub is_nothing : List Kid → Bool
is_nothing [] = true
is_nothing (kid ∷ more) = false

-- the turn of the first of these children, with this gap before it
abbrev pub turn_of : ℕ → List Kid → Turn
turn_of gap more = record { gap = gap; last = is_nothing more }

-- the comments at the children, with this gap before the first
abbrev pub of_kids : Telling → Option Variant → List ℕ → Around → ℕ → List Kid → List Seat
of_kids tell v steps sides gap [] = []
of_kids tell v steps sides gap (kid ∷ more) = of_kid tell v steps (around v steps sides (turn_of gap more) kid) (turn_of gap more) kid ++ of_kids tell v steps sides (next gap) more

-- the last gap, behind these children
abbrev pub end_of : Option Variant → List ℕ → Around → At → ℕ → List Kid → At
end_of v steps sides end gap [] = end
end_of v steps sides end gap (kid ∷ more) = end_of v steps sides (around v steps sides (turn_of gap more) kid).behind (next gap) more

-- the comments inside the node, in its last gap
abbrev pub inside : Option Variant → Syntax → At → List Seat
inside v x end = if has_inner v x then seats_at end (notes_of x).inner else []

-- the comments of a tree of these children: at them, and inside
abbrev pub of_tree : Telling → Option Variant → List ℕ → Around → Syntax → List Kid → List Seat
of_tree tell v steps sides x kids = of_kids tell v steps sides 0 kids ++ inside v x (end_of v steps sides (record { steps = steps; gap = 0 }) 0 kids)

abbrev pub of_form : Telling → List ℕ → Around → Syntax → Option Variant → List Seat
of_form tell steps sides x v = of_tree tell v steps sides x (children v x)

-- the comments of a tree that is no higher than this
abbrev pub seats_in : ℕ → Telling
seats_in zero category steps sides x = []
seats_in (suc n) category steps sides x = of_form (seats_in n) steps sides x (form category x)

abbrev pub top : ℕ → Around
top count = record { before = record { steps = []; gap = 0 }; behind = record { steps = []; gap = count } }

abbrev pub alone : Category
alone = c.Expression

-- all comments of the tree, in the order of the text, with their places
abbrev pub seats : Syntax → List Seat
seats x = seats_in (min (height x) 4294967295) alone [] (top (min (length (children (form alone x) x)) 4294967295)) x
