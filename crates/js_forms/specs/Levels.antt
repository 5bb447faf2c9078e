-- How tightly forms bind (ECMA-262, clauses 13.3 to 13.16): a place that wants a higher level takes
-- an expression in parentheses alone.
use Rattle.std.specs.Prelude.{ℕ, Bool, true, false, Option, Some, None, if◌then◌else◌}
use Rattle.js_forms.specs.declared.operator.Operator.{Operator}
use Rattle.js_forms.specs.Operators.{infix_of}
use Rattle.js_forms.specs.declared.operator.Infix.{Infix}
use Rattle.js_forms.specs.declared.operator.Infix.TheVariants as i
use Rattle.js_forms.specs.declared.levels.Left.{Left}
use Rattle.js_forms.specs.declared.levels.Left.TheVariants as l
use Rattle.js_forms.specs.declared.form.Link.{Link}
use Rattle.js_forms.specs.declared.form.Link.TheVariants as k
use Rattle.js_forms.specs.Table.{table_level}
use Rattle.js_forms.specs.declared.levels.TheConstants.{ASSIGNMENT, CALL, CHAIN, COALESCE, PRIMARY}
use Rattle.js_forms.specs.declared.piece.Spelling.{Spelling}
use Rattle.js_forms.specs.declared.piece.Spelling.TheVariants as v
use Rattle.js_forms.specs.declared.form.Form.{Form}
use Rattle.js_forms.specs.declared.form.Form.TheVariants as f

abbrev pub infix_level : Infix → ℕ
infix_level (i.Binary level left right) = level
infix_level (i.Logical level left right) = level
infix_level i.None = PRIMARY
infix_level i.Assignment = PRIMARY

-- the operator between two operands of an expression
abbrev pub infix_operator : Form → Option Operator
infix_operator (f.Logical operator) = Some operator
infix_operator (f.Binary operator) = Some operator
infix_operator _ = None

abbrev pub level_by : Option Operator → ℕ → ℕ
level_by (Some operator) other = infix_level (infix_of operator)
level_by None other = other

-- the level of an expression; of a member, a tagged template or a `new` this is the highest
abbrev pub level : Form → ℕ
level form = level_by (infix_operator form) (table_level form)

abbrev pub lacks_arguments : Spelling → Bool
lacks_arguments v.WithoutArguments = true
lacks_arguments _ = false

-- the level of an expression in this spelling
abbrev pub spelled_level : Form → Spelling → ℕ
spelled_level form spelling = if lacks_arguments spelling then CHAIN else level form

abbrev pub first_operand : Infix → Left
first_operand (i.Binary level left right) = left
first_operand (i.Logical level left right) = left
first_operand i.None = l.Simple
first_operand i.Assignment = l.Simple

abbrev pub first_of_link : Link → Left
first_of_link k.Plain = l.Object
first_of_link k.Optional = l.Level CALL

-- what the first child is, of a form that begins with an expression
abbrev pub first_child : Form → Left
first_child (f.Logical operator) = first_operand (infix_of operator)
first_child (f.Binary operator) = first_operand (infix_of operator)
first_child f.Conditional = l.Level COALESCE
first_child f.Tagged = l.Level CALL
first_child (f.Dot link) = first_of_link link
first_child (f.Index link) = first_of_link link
first_child (f.Call link) = first_of_link link
first_child _ = l.Simple

abbrev pub infix_right : Infix → ℕ
infix_right (i.Binary level left right) = right
infix_right (i.Logical level left right) = right
infix_right i.None = ASSIGNMENT
infix_right i.Assignment = ASSIGNMENT

-- the least level of the right operand
abbrev pub right : Operator → ℕ
right operator = infix_right (infix_of operator)

-- the same of a form that has an operator
abbrev pub right_level : Option Operator → ℕ
right_level (Some operator) = right operator
right_level None = ASSIGNMENT
