-- What the slots of each form take, and what a form is at its ends: told by its pieces (ESTree; ECMA-262,
-- clauses 11 to 16).
use Rattle.std.specs.Prelude.{ℕ, ◌+◌, ◌-◌, ◌==◌, Bool, true, false, not, ◌&&◌, nat_lt, nat_le, if◌then◌else◌, List, [], ◌∷◌, Option, Some, None}
use Rattle.std.specs.List.{list_all}
use Rattle.js_forms.specs.Levels.{first_child}
use Rattle.js_forms.specs.Own.{plain}
use Rattle.js_forms.specs.Table.{pieces, first_row, second_row}
use Rattle.js_forms.specs.declared.category.Category.{Category}
use Rattle.js_forms.specs.declared.category.Category.TheVariants as c
use Rattle.js_forms.specs.declared.context.Scope.{Scope}
use Rattle.js_forms.specs.declared.context.Scope.TheVariants as s
use Rattle.js_forms.specs.declared.form.Form.{Form}
use Rattle.js_forms.specs.declared.form.Form.TheVariants as f
use Rattle.js_forms.specs.declared.levels.Left.{Left}
use Rattle.js_forms.specs.declared.levels.Left.TheVariants as l
use Rattle.js_forms.specs.declared.levels.TheConstants.{CALL}
use Rattle.js_forms.specs.declared.piece.Piece.{Piece}
use Rattle.js_forms.specs.declared.piece.Piece.TheVariants as p
use Rattle.js_forms.specs.declared.piece.Place.{Place}
use Rattle.tree_forms.specs.declared.variant.Variant.{Variant}

abbrev pub pieces_of : Variant → List Piece
pieces_of v = pieces v.form v.spelling

-- how many slots a piece fills that is no choice
abbrev pub width : Piece → ℕ
width (p.Child place) = 1
width (p.First place) = 1
width p.Hole = 1
width (p.NoList place) = 1
width (p.Row place semicolons) = 1
width (p.Commas place holes last) = 1
width (p.Twins before place) = 2
width (p.Template cooked) = 2
width _ = 0

-- the piece of a choice's first row that fills a slot
abbrev pub filler : List Piece → Piece
filler [] = p.Nothing
filler (piece ∷ more) = if width piece == 0 then filler more else piece

abbrev pub shown : Piece → Piece
shown (p.Choice choice) = filler (first_row choice)
shown piece = piece

-- the piece as the form tells it, and of a choice what fills a slot
abbrev pub seen : Form → Piece → Piece
seen form piece = shown (plain form piece)

abbrev pub place : Category → ℕ → Scope → Place
place category least scope = record { category = category; least = least; scope = scope }

-- the least level of what a form begins with
abbrev pub left_level : Left → ℕ
left_level (l.Level least) = least
left_level (l.Coalescing least) = least
left_level (l.Other least) = least
left_level l.Object = CALL
left_level l.Simple = 0

abbrev pub is_chain : Form → Bool
is_chain f.Chain = true
is_chain _ = false

abbrev pub operand_level : Form → ℕ
operand_level form = if is_chain form then CALL else left_level (first_child form)

-- an import's names stand in one list with its default and its namespace
abbrev pub listed : Category → Category
listed c.ImportSpecifier = c.Imports
listed category = category

-- the first of two slots of one name is the mirror, or the second
abbrev pub is_mirror_of : Bool → ℕ → Bool
is_mirror_of true number = number == 0
is_mirror_of false number = number == 1

-- what the slot of this number takes, among those that the piece fills
abbrev pub place_in : Form → Piece → ℕ → Option Place
place_in _ (p.Child one) number = Some one
place_in form (p.First one) number = Some (place one.category (operand_level form) one.scope)
place_in _ p.Hole number = None
place_in _ (p.NoList one) number = one
place_in _ (p.Row one semicolons) number = Some one
place_in _ (p.Commas one holes last) number = Some (place (listed one.category) one.least one.scope)
place_in _ (p.Twins before one) number = if is_mirror_of before number then Some (place c.AnyName 0 s.Same) else Some one
place_in _ (p.Template cooked) number = if number == 0 then Some (place c.Characters 0 s.Same) else Some (place c.Expression 0 s.Free)
place_in _ _ number = None

-- what the slot of this number takes, if something may stand there
abbrev pub slot_in : Form → List Piece → ℕ → Option Place
slot_in _ [] number = None
slot_in form (piece ∷ more) number = if nat_lt number (width (seen form piece)) then place_in form (seen form piece) number else slot_in form more (number - width (seen form piece))

abbrev pub slot : Variant → ℕ → Option Place
slot v number = slot_in v.form (pieces_of v) number

abbrev pub is_mirror_in : Piece → ℕ → Bool
is_mirror_in (p.Twins before place) number = is_mirror_of before number
is_mirror_in _ number = false

-- the slot holds a name that is spelled for another one
abbrev pub has_mirror : Form → List Piece → ℕ → Bool
has_mirror _ [] number = false
has_mirror form (piece ∷ more) number = if nat_lt number (width (seen form piece)) then is_mirror_in (seen form piece) number else has_mirror form more (number - width (seen form piece))

abbrev pub is_mirror : Variant → ℕ → Bool
is_mirror v number = has_mirror v.form (pieces_of v) number

-- the piece spells no token where no child is there
abbrev pub is_quiet : Piece → Bool
is_quiet p.Interpreter = false
is_quiet (p.Token test) = false
is_quiet (p.Text lexeme) = false
is_quiet (p.End ending clause) = false
is_quiet (p.Template cooked) = false
is_quiet _ = true

-- the same, of a choice by its second row
abbrev pub stays_quiet : Piece → Bool
stays_quiet (p.Choice choice) = list_all is_quiet (second_row choice)
stays_quiet piece = is_quiet piece

abbrev pub all_quiet : Form → List Piece → Bool
all_quiet _ [] = true
all_quiet form (piece ∷ more) = stays_quiet (plain form piece) && all_quiet form more

abbrev pub is_template_piece : Piece → Bool
is_template_piece (p.Template cooked) = true
is_template_piece _ = false

-- no token stands behind the slot of this number, where it is the last with a child
abbrev pub ends_in : Form → List Piece → ℕ → Bool
ends_in _ [] number = false
ends_in form (piece ∷ more) number = if nat_lt number (width (seen form piece)) then not (is_template_piece (seen form piece)) && all_quiet form more else ends_in form more (number - width (seen form piece))

-- the form ends with the child of this slot, with no word behind it
abbrev pub ends_bare : Variant → ℕ → Bool
ends_bare v number = ends_in v.form (pieces_of v) number

-- the piece spells a child or children
abbrev pub has_children : Piece → Bool
has_children (p.Child place) = true
has_children (p.First place) = true
has_children (p.Into place) = true
has_children (p.Row place semicolons) = true
has_children (p.Commas place holes last) = true
has_children (p.Twins before place) = true
has_children _ = false

-- what stands first is a child, and no token; a choice that stands first begins with one
abbrev pub begins_in : Form → List Piece → Bool
begins_in _ [] = false
begins_in form (piece ∷ more) = if has_children (plain form piece) then true else stays_quiet (plain form piece) && begins_in form more

-- the form begins with its first child, with no word before it
abbrev pub begins_bare : Variant → Bool
begins_bare v = begins_in v.form (pieces_of v)

-- how many tokens a piece spells: 0, 1, or more, where a choice may be of more
abbrev pub tokens_at : Category → ℕ
tokens_at c.Name = 1
tokens_at c.AnyName = 1
tokens_at _ = 2

abbrev pub one_or_more : Bool → ℕ
one_or_more single = if single then 1 else 2

-- the same where the twin is one token, where a template has no expressions
abbrev pub tokens_of : Bool → Piece → ℕ
tokens_of single p.Interpreter = 1
tokens_of single (p.Token test) = 1
tokens_of single (p.Text lexeme) = 1
tokens_of single (p.End ending clause) = 1
tokens_of single (p.Child place) = tokens_at place.category
tokens_of single (p.First place) = 2
tokens_of single (p.Into place) = 2
tokens_of single (p.Row place semicolons) = 2
tokens_of single (p.Commas place holes last) = 2
tokens_of single (p.Choice choice) = 2
tokens_of single (p.Twins before place) = one_or_more single
tokens_of single (p.Template cooked) = one_or_more single
tokens_of single _ = 0

-- the pieces spell no more than this many tokens
abbrev pub spells_at_most : Bool → Form → List Piece → ℕ → Bool
spells_at_most single _ [] most = true
spells_at_most single form (piece ∷ more) most = nat_le (tokens_of single (plain form piece)) most && spells_at_most single form more (most - tokens_of single (plain form piece))
