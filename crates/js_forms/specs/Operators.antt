-- Operators: by which tokens, before and between which operands (ECMA-262, clauses 13.4 to 13.15).
use Rattle.std.specs.Prelude.{ℕ, suc, ◌+◌, Bool, true, false, ◌==◌, ◌&&◌, List, [], ◌∷◌, Option, Some, None, slice_index_or, if◌then◌else◌}
use denote.Enum.Declared.{tag_of}
use Rattle.js_tokens.specs.contracts.punctuator.Punctuator.{the_type}
use Rattle.js_tokens.specs.Punctuators.{punctuator_spelling}
use Rattle.js_tokens.specs.Words.{word_number, word_spelling}
use Rattle.js_tokens.specs.declared.punctuator.Punctuator.TheVariants.{OpenBrace}
use Rattle.js_tokens.specs.declared.token.TokenKind.{TokenKind}
use Rattle.js_tokens.specs.declared.token.TokenKind.TheVariants as t
use Rattle.js_tokens.specs.declared.word.Word.{Word}
use Rattle.js_forms.specs.declared.operator.Infix.{Infix}
use Rattle.js_forms.specs.declared.operator.Infix.TheVariants as i
use Rattle.js_forms.specs.declared.operator.Operator.{Operator}
use Rattle.js_forms.specs.declared.operator.Operator.TheVariants as o
use Rattle.js_forms.specs.declared.operator.Prefix.{Prefix}
use Rattle.js_forms.specs.declared.operator.Prefix.TheVariants as p
use Rattle.js_forms.specs.declared.operator.Role.{Role}
use Rattle.js_forms.specs.declared.operator.Role.TheVariants as role
use Rattle.js_forms.specs.declared.operator.TheConstants.{OPERATORS, WORD_COUNT}

abbrev pub operator_spelling : Operator → List ℕ
operator_spelling (o.Mark mark) = punctuator_spelling mark
operator_spelling (o.Word word) = word_spelling word

-- a token, what it is between two operands and before one
abbrev pub Row : Type 0
Row = Operator × Infix × Prefix

unfoldable pub operators : List Row
operators = OPERATORS.now

-- behind the words the punctuators stand at their places, counted from n
abbrev pub are_placed : ℕ → List Operator → Bool
are_placed n [] = true
are_placed n ((o.Mark mark) ∷ more) = (WORD_COUNT + tag_of the_type mark == n) && are_placed (suc n) more
are_placed n ((o.Word word) ∷ more) = are_placed (suc n) more

abbrev pub no_row : Row
no_row = (o.Mark OpenBrace, i.None, p.None)

abbrev pub row_at : ℕ → Row
row_at n = slice_index_or operators n no_row

-- the row of the word among those before the punctuators
abbrev pub row_of : Word → List Row → Row
row_of word [] = no_row
row_of word ((o.Mark mark, between, before) ∷ more) = no_row
row_of word ((o.Word found, between, before) ∷ more) = if word_number found == word_number word then (o.Word found, between, before) else row_of word more

-- what the operator is between two operands
abbrev pub infix_of : Operator → Infix
infix_of (o.Mark mark) = (row_at (WORD_COUNT + tag_of the_type mark)).1
infix_of (o.Word word) = (row_of word operators).1

-- what it is before one
abbrev pub prefix_of : Operator → Prefix
prefix_of (o.Mark mark) = (row_at (WORD_COUNT + tag_of the_type mark)).2
prefix_of (o.Word word) = (row_of word operators).2

abbrev pub is_update : Prefix → Bool
is_update p.Update = true
is_update _ = false

abbrev pub is_unary : Prefix → Bool
is_unary p.Unary = true
is_unary _ = false

abbrev pub is_binary : Infix → Bool
is_binary (i.Binary level left right) = true
is_binary _ = false

abbrev pub is_logical : Infix → Bool
is_logical (i.Logical level left right) = true
is_logical _ = false

abbrev pub is_assignment : Infix → Bool
is_assignment i.Assignment = true
is_assignment _ = false

-- an operator of such expressions
abbrev pub has_role : Infix → Prefix → Role → Bool
has_role one other role.Update = is_update other
has_role one other role.Unary = is_unary other
has_role one other role.Binary = is_binary one
has_role one other role.Logical = is_logical one
has_role one other role.Assignment = is_assignment one

abbrev pub with_role : Operator → Role → Option Operator
with_role operator one = if has_role (infix_of operator) (prefix_of operator) one then Some operator else None

-- the operator of such expressions that the token is
abbrev pub operator_of : TokenKind → Role → Option Operator
operator_of (t.Punctuator mark) one = with_role (o.Mark mark) one
operator_of (t.Name word) one = with_role (o.Word word) one
operator_of _ one = None
