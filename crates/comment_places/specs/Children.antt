-- The children of a node in the order of the text, each with what its slot takes (ESTree). Slots stand
-- in that order, but for a template's characters and expressions, which take turns. A name that is
-- spelled once for two children has a mirror, which stands nowhere.
use Rattle.std.specs.Prelude.{ℕ, ◌+◌, ◌==◌, Bool, true, false, if◌then◌else◌, List, [], ◌∷◌, ◌++◌, Option, Some, None, min, take, drop}
use Rattle.tree_core.specs.Syntax.{Syntax, node, Slots, no_slots, slot, Places, no_places, hole, place}
use Rattle.tree_core.specs.View.{syntax}
use Rattle.js_forms.specs.declared.category.Category.{Category}
use Rattle.js_forms.specs.declared.category.Category.TheVariants as c
use Rattle.js_forms.specs.declared.piece.Place.{Place}
use Rattle.js_forms.specs.declared.form.Form.{Form}
use Rattle.js_forms.specs.declared.form.Form.TheVariants as f
use Rattle.comment_places.specs.declared.children.Child.{Child}
use Rattle.tree_forms.specs.declared.variant.Variant.{Variant}
use Rattle.tree_forms.specs.Slots as slots

-- a child: the tree, the number of its place in its parent, that of its slot, and what this takes
pub record Kid : Type 0 where
  pub tree : Syntax
  pub number : ℕ
  pub slot_number : ℕ
  pub category : Category

abbrev pub kid_view : Child → Kid
kid_view c = record { tree = syntax c.node.now; number = c.number; slot_number = c.slot_number; category = c.category }

-- the number of the place behind this one; none has one above the largest step
abbrev pub next : ℕ → ℕ
next n = min (n + 1) 4294967295

abbrev pub stands_nowhere : Option Variant → ℕ → Bool
stands_nowhere (Some v) number = slots.is_mirror v number
stands_nowhere None number = false

abbrev pub category_of : Option Place → Category
category_of (Some taking) = taking.category
category_of None = c.Expression

-- what the slot of this number takes; one that the form does not have counts as one of an expression
abbrev pub category_in : Variant → ℕ → Category
category_in v number = category_of (slots.slot v number)

abbrev pub category_at : Option Variant → ℕ → Category
category_at (Some v) number = category_in v number
category_at None number = c.Expression

-- those that stand in the places, the first of which has this number
abbrev pub in_places : ℕ → Category → ℕ → Places → List Kid
in_places at category n no_places = []
in_places at category n (hole name more) = in_places at category (next n) more
in_places at category n (place name x more) = record { tree = x; number = n; slot_number = at; category = category } ∷ in_places at category (next n) more

abbrev pub behind : ℕ → Places → ℕ
behind n no_places = n
behind n (hole name more) = behind (next n) more
behind n (place name x more) = behind (next n) more

-- those that stand in the slots from this number on, the first place of which has that number
abbrev pub in_slots : Option Variant → ℕ → ℕ → Slots → List Kid
in_slots v at n no_slots = []
in_slots v at n (slot list first more) = (if stands_nowhere v at then [] else in_places at (category_at v at) n first) ++ in_slots v (at + 1) (behind n first) more

abbrev pub is_character : Category → Bool
is_character c.Characters = true
is_character _ = false

-- how many characters come before the first expression of a template
abbrev pub character_count : List Kid → ℕ
character_count [] = 0
character_count (kid ∷ more) = if is_character kid.category then character_count more + 1 else 0

-- the first of them, and those behind it
abbrev pub first_of : List Kid → List Kid
first_of [] = []
first_of (kid ∷ more) = kid ∷ []

abbrev pub rest_of : List Kid → List Kid
rest_of [] = []
rest_of (kid ∷ more) = more

-- characters and expressions in turn
abbrev pub turns : List Kid → List Kid → List Kid
turns [] holes = holes
turns (character ∷ more) holes = character ∷ (first_of holes ++ turns more (rest_of holes))

-- the characters, which come first, and the expressions behind them
abbrev pub in_turns : List Kid → List Kid
in_turns kids = turns (take (character_count kids) kids) (drop (character_count kids) kids)

abbrev pub is_template_form : Form → Bool
is_template_form f.Template = true
is_template_form _ = false

abbrev pub is_template : Option Variant → Bool
is_template (Some v) = is_template_form v.form
is_template None = false

abbrev pub in_text : Bool → List Kid → List Kid
in_text template kids = if template then in_turns kids else kids

-- the children that are there, in the order of the text, of a tree in this form
abbrev pub children : Option Variant → Syntax → List Kid
children v (node kind found slots notes from) = in_text (is_template v) (in_slots v 0 0 slots)
