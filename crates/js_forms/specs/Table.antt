-- The table of forms: the columns of its rows (ECMA-262, clauses 11 to 16).
use Rattle.std.specs.Prelude.{ℕ, suc, ◌-◌, Bool, true, ◌==◌, ◌&&◌, List, [], ◌∷◌, codes, slice_index_or, map, nat_lt, if◌then◌else◌}
use denote.Enum.Bare.{sameb}
use denote.Enum.Declared.{tag_of}
use Rattle.type_defs.specs.declared.kind.Kind.{Kind}
use Rattle.type_defs.specs.declared.kind.Kind.TheVariants as k
use Rattle.js_forms.specs.contracts.form.Form.{the_type}
use Rattle.js_forms.specs.contracts.piece.Choice as choice
use Rattle.js_forms.specs.contracts.piece.Spelling as which
use Rattle.js_forms.specs.declared.form.Form.{Form}
use Rattle.js_forms.specs.declared.piece.Choice.{Choice}
use Rattle.js_forms.specs.declared.piece.MetaWord.{MetaWord}
use Rattle.js_forms.specs.declared.piece.MetaWord.TheVariants as mw
use Rattle.js_forms.specs.declared.piece.Piece.{Piece}
use Rattle.js_forms.specs.declared.piece.Spelling.{Spelling}
use Rattle.js_forms.specs.declared.table.choices.TheConstants.{CHOICES}
use Rattle.js_forms.specs.declared.table.modules.TheConstants.{MODULE_ITEMS}
use Rattle.js_forms.specs.declared.table.operations.TheConstants.{OPERATIONS}
use Rattle.js_forms.specs.declared.table.primaries.TheConstants.{PRIMARIES}
use Rattle.js_forms.specs.declared.table.statements.TheConstants.{STATEMENTS}

unfoldable pub meta_spelling : MetaWord → List ℕ
meta_spelling mw.Target = codes "target"
meta_spelling mw.Meta = codes "meta"
meta_spelling mw.As = codes "as"

unfoldable pub primary_forms : List Form
primary_forms = map (λ row. row.0) PRIMARIES.now

unfoldable pub primary_kinds : List Kind
primary_kinds = map (λ row. row.1) PRIMARIES.now

unfoldable pub primary_levels : List ℕ
primary_levels = map (λ row. row.2) PRIMARIES.now

unfoldable pub primary_spellings : List (List (Spelling × List Piece))
primary_spellings = map (λ row. map (λ s. (s.0, s.1.now)) row.3.now) PRIMARIES.now

unfoldable pub operation_forms : List Form
operation_forms = map (λ row. row.0) OPERATIONS.now

unfoldable pub operation_kinds : List Kind
operation_kinds = map (λ row. row.1) OPERATIONS.now

unfoldable pub operation_levels : List ℕ
operation_levels = map (λ row. row.2) OPERATIONS.now

unfoldable pub operation_spellings : List (List (Spelling × List Piece))
operation_spellings = map (λ row. map (λ s. (s.0, s.1.now)) row.3.now) OPERATIONS.now

unfoldable pub statement_forms : List Form
statement_forms = map (λ row. row.0) STATEMENTS.now

unfoldable pub statement_kinds : List Kind
statement_kinds = map (λ row. row.1) STATEMENTS.now

unfoldable pub statement_levels : List ℕ
statement_levels = map (λ row. row.2) STATEMENTS.now

unfoldable pub statement_spellings : List (List (Spelling × List Piece))
statement_spellings = map (λ row. map (λ s. (s.0, s.1.now)) row.3.now) STATEMENTS.now

unfoldable pub module_forms : List Form
module_forms = map (λ row. row.0) MODULE_ITEMS.now

unfoldable pub module_kinds : List Kind
module_kinds = map (λ row. row.1) MODULE_ITEMS.now

unfoldable pub module_levels : List ℕ
module_levels = map (λ row. row.2) MODULE_ITEMS.now

unfoldable pub module_spellings : List (List (Spelling × List Piece))
module_spellings = map (λ row. map (λ s. (s.0, s.1.now)) row.3.now) MODULE_ITEMS.now

unfoldable pub all_choices : List Choice
all_choices = map (λ row. row.0) CHOICES.now

unfoldable pub first_rows : List (List Piece)
first_rows = map (λ row. row.1.now) CHOICES.now

unfoldable pub second_rows : List (List Piece)
second_rows = map (λ row. row.2.now) CHOICES.now

-- the form's place in the table
abbrev pub place_of : Form → ℕ
place_of form = tag_of the_type form

-- each form stands at its place, counted from n
abbrev pub are_placed : ℕ → List Form → Bool
are_placed n [] = true
are_placed n (form ∷ more) = (place_of form == n) && are_placed (suc n) more

abbrev pub choice_place : Choice → ℕ
choice_place one = tag_of choice.the_type one

abbrev pub are_choices_placed : ℕ → List Choice → Bool
are_choices_placed n [] = true
are_choices_placed n (one ∷ more) = (choice_place one == n) && are_choices_placed (suc n) more

abbrev pub kind_at : ℕ → Kind
kind_at n =
    if nat_lt n 23 then slice_index_or primary_kinds n k.Identifier else
    (if nat_lt n 52 then slice_index_or operation_kinds (n - 23) k.Identifier else
    (if nat_lt n 82 then slice_index_or statement_kinds (n - 52) k.Identifier else slice_index_or module_kinds (n - 82) k.Identifier))

-- the kind of the form's nodes
abbrev pub kind_of : Form → Kind
kind_of form = kind_at (place_of form)

abbrev pub level_at : ℕ → ℕ
level_at n =
    if nat_lt n 23 then slice_index_or primary_levels n 0 else
    (if nat_lt n 52 then slice_index_or operation_levels (n - 23) 0 else
    (if nat_lt n 82 then slice_index_or statement_levels (n - 52) 0 else slice_index_or module_levels (n - 82) 0))

-- the level that the table gives the form
abbrev pub table_level : Form → ℕ
table_level form = level_at (place_of form)

abbrev pub spellings_at : ℕ → List (Spelling × List Piece)
spellings_at n =
    if nat_lt n 23 then slice_index_or primary_spellings n [] else
    (if nat_lt n 52 then slice_index_or operation_spellings (n - 23) [] else
    (if nat_lt n 82 then slice_index_or statement_spellings (n - 52) [] else slice_index_or module_spellings (n - 82) []))

-- the spellings of the form, each with its pieces
abbrev pub spellings : Form → List (Spelling × List Piece)
spellings form = spellings_at (place_of form)

-- what `==` says of two spellings
abbrev pub same_spelling : Spelling → Spelling → Bool
same_spelling = sameb which.the_type

abbrev pub pieces_in : Spelling → List (Spelling × List Piece) → List Piece
pieces_in spelling [] = []
pieces_in spelling (one ∷ more) = if same_spelling one.0 spelling then one.1 else pieces_in spelling more

-- the pieces of the form in this spelling, none where the form has no such
abbrev pub pieces : Form → Spelling → List Piece
pieces form spelling = pieces_in spelling (spellings form)

abbrev pub first_of : List (Spelling × List Piece) → List Piece
first_of [] = []
first_of (first ∷ more) = first.1

-- the pieces of the form's first spelling
abbrev pub first_pieces : Form → List Piece
first_pieces form = first_of (spellings form)

-- the two rows of a choice
abbrev pub first_row : Choice → List Piece
first_row one = slice_index_or first_rows (choice_place one) []

abbrev pub second_row : Choice → List Piece
second_row one = slice_index_or second_rows (choice_place one) []
