-- The scalars that a form determines, in the order of the kind's fields. Its pieces begin with them.
use Rattle.std.specs.Prelude.{ℕ, Bool, true, false, List, [], ◌∷◌, ◌++◌, Option, Some, None, codes}
use Rattle.tree_core.specs.declared.scalars.Scalar.{Scalar}
use Rattle.tree_core.specs.declared.scalars.Scalar.TheVariants as scalar
use Rattle.js_forms.specs.Operators.{operator_spelling}
use Rattle.js_forms.specs.Forms.{flow_of, is_async, is_generator, is_computed, is_static, is_optional, operator_of}
use Rattle.js_forms.specs.Own.{key_of, access_of, standing_of, link_of, sort_of, variable_of}
use Rattle.js_forms.specs.Table.{first_pieces}
use Rattle.js_forms.specs.declared.form.Access.{Access}
use Rattle.js_forms.specs.declared.form.Access.TheVariants as a
use Rattle.js_forms.specs.declared.form.Form.{Form}
use Rattle.js_forms.specs.declared.form.Form.TheVariants as f
use Rattle.js_forms.specs.declared.form.Sort.{Sort}
use Rattle.js_forms.specs.declared.form.Sort.TheVariants as sort
use Rattle.js_forms.specs.declared.form.Variable.{Variable}
use Rattle.js_forms.specs.declared.form.Variable.TheVariants as variable
use Rattle.js_forms.specs.declared.operator.Operator.{Operator}
use Rattle.js_forms.specs.declared.piece.Fixed.{Fixed}
use Rattle.js_forms.specs.declared.piece.Fixed.TheVariants as x
use Rattle.js_forms.specs.declared.piece.Piece.{Piece}
use Rattle.js_forms.specs.declared.piece.Piece.TheVariants as p

unfoldable pub access_name : Access → List ℕ
access_name a.Method = codes "method"
access_name a.Get = codes "get"
access_name a.Set = codes "set"
access_name a.Constructor = codes "constructor"

unfoldable pub variable_name : Variable → List ℕ
variable_name variable.Var = codes "var"
variable_name variable.Let = codes "let"
variable_name variable.Const = codes "const"

unfoldable pub sort_name : Sort → List ℕ
sort_name sort.Quoted = codes "string"
sort_name sort.Number = codes "number"
sort_name sort.BigInt = codes "bigint"
sort_name sort.True = codes "boolean"
sort_name sort.False = codes "boolean"
sort_name sort.Null = codes "null"
sort_name sort.Regex = codes "regexp"

abbrev pub text : List ℕ → List Scalar
text spelling = scalar.Text spelling ∷ []

abbrev pub truth : Bool → List Scalar
truth value = scalar.Truth value ∷ []

-- `kind` of a property, which is no method's of a class
abbrev pub property_kind : Access → List ℕ
property_kind a.Get = access_name a.Get
property_kind a.Set = access_name a.Set
property_kind a.Method = codes "init"
property_kind a.Constructor = codes "init"

-- a property is a method, and neither an accessor nor a value
abbrev pub is_method : Form → Bool
is_method (f.PropertyMethod a.Method _ _) = true
is_method (f.PropertyMethod a.Constructor _ _) = true
is_method _ = false

abbrev pub operator_text : Option Operator → List Scalar
operator_text (Some operator) = text (operator_spelling operator)
operator_text None = []

-- `value` and `flags` of a literal that is a word
abbrev pub word_value : Sort → List Scalar
word_value sort.True = truth true
word_value sort.False = truth false
word_value sort.Null = scalar.Null ∷ []
word_value _ = []

abbrev pub word_flags : Sort → List Scalar
word_flags sort.True = scalar.Null ∷ []
word_flags sort.False = scalar.Null ∷ []
word_flags sort.Null = scalar.Null ∷ []
word_flags _ = []

-- the scalar that it is in the form, if that has it
abbrev pub fixed : Form → Fixed → List Scalar
fixed _ x.True = truth true
fixed _ x.False = truth false
fixed form x.Operator = operator_text (operator_of form)
fixed form x.Async = truth (is_async (flow_of form))
fixed form x.Generator = truth (is_generator (flow_of form))
fixed form x.Static = truth (is_static (standing_of form))
fixed form x.Computed = truth (is_computed (key_of form))
fixed form x.Optional = truth (is_optional (link_of form))
fixed form x.MethodKind = text (access_name (access_of form))
fixed form x.PropertyKind = text (property_kind (access_of form))
fixed form x.IsMethod = truth (is_method form)
fixed form x.DeclarationKind = text (variable_name (variable_of form))
fixed form x.LiteralKind = text (sort_name (sort_of form))
fixed form x.WordValue = word_value (sort_of form)
fixed form x.WordFlags = word_flags (sort_of form)
fixed _ x.NewTarget = text (codes "new.target")
fixed _ x.ImportMeta = text (codes "import.meta")

-- the scalars with which the pieces begin
abbrev pub leading : Form → List Piece → List Scalar
leading _ [] = []
leading form (p.Scalar one ∷ more) = fixed form one ++ leading form more
leading _ (piece ∷ more) = []

-- the scalars that the form determines, the same in all its spellings
abbrev pub scalars : Form → List Scalar
scalars form = leading form (first_pieces form)
