-- The pieces that the fields of a form tell.
use Rattle.std.specs.Prelude.{Bool, true, false, Option, Some, None}
use Rattle.js_tokens.specs.declared.punctuator.Punctuator.{Punctuator}
use Rattle.js_tokens.specs.declared.punctuator.Punctuator.TheVariants as m
use Rattle.js_tokens.specs.declared.word.Word.{Word}
use Rattle.js_tokens.specs.declared.word.Word.TheVariants as w
use Rattle.js_forms.specs.Forms.{flow_of, operator_of, is_async, is_generator, is_computed, is_static, is_optional}
use Rattle.js_forms.specs.Levels.{right_level}
use Rattle.js_forms.specs.declared.category.Category.{Category}
use Rattle.js_forms.specs.declared.category.Category.TheVariants as c
use Rattle.js_forms.specs.declared.context.Scope.TheVariants as s
use Rattle.js_forms.specs.declared.form.Access.{Access}
use Rattle.js_forms.specs.declared.form.Access.TheVariants as a
use Rattle.js_forms.specs.declared.form.Flow.{Flow}
use Rattle.js_forms.specs.declared.form.Flow.TheVariants as fl
use Rattle.js_forms.specs.declared.form.Form.{Form}
use Rattle.js_forms.specs.declared.form.Form.TheVariants as f
use Rattle.js_forms.specs.declared.form.Key.{Key}
use Rattle.js_forms.specs.declared.form.Key.TheVariants as key
use Rattle.js_forms.specs.declared.form.Link.{Link}
use Rattle.js_forms.specs.declared.form.Link.TheVariants as link
use Rattle.js_forms.specs.declared.form.Sort.{Sort}
use Rattle.js_forms.specs.declared.form.Sort.TheVariants as sort
use Rattle.js_forms.specs.declared.form.Standing.{Standing}
use Rattle.js_forms.specs.declared.form.Standing.TheVariants as standing
use Rattle.js_forms.specs.declared.form.Variable.{Variable}
use Rattle.js_forms.specs.declared.form.Variable.TheVariants as v
use Rattle.js_forms.specs.declared.operator.Operator.{Operator}
use Rattle.js_forms.specs.declared.operator.Operator.TheVariants as o
use Rattle.js_forms.specs.declared.piece.Blank.TheVariants.{Space}
use Rattle.js_forms.specs.declared.piece.Lexeme.TheVariants as l
use Rattle.js_forms.specs.declared.piece.Own.{Own}
use Rattle.js_forms.specs.declared.piece.Own.TheVariants as own
use Rattle.js_forms.specs.declared.piece.Piece.{Piece}
use Rattle.js_forms.specs.declared.piece.Piece.TheVariants as p
use Rattle.js_forms.specs.declared.piece.Test.TheVariants as t

-- whether the key of a member is in brackets
abbrev pub key_of : Form → Key
key_of (f.Property key) = key
key_of (f.PropertyMethod _ _ key) = key
key_of (f.Method _ _ _ key) = key
key_of (f.Field _ key) = key
key_of (f.PatternProperty key) = key
key_of _ = key.Plain

-- what a method is to its object or class
abbrev pub access_of : Form → Access
access_of (f.PropertyMethod access _ _) = access
access_of (f.Method access _ _ _) = access
access_of _ = a.Method

abbrev pub standing_of : Form → Standing
standing_of (f.Method _ standing _ _) = standing
standing_of (f.Field standing _) = standing
standing_of _ = standing.Instance

abbrev pub link_of : Form → Link
link_of (f.Dot link) = link
link_of (f.Index link) = link
link_of (f.Call link) = link
link_of _ = link.Plain

abbrev pub sort_of : Form → Sort
sort_of (f.Literal sort) = sort
sort_of _ = sort.Null

abbrev pub variable_of : Form → Variable
variable_of (f.Variables variable) = variable
variable_of (f.HeadVariables variable) = variable
variable_of _ = v.Var

-- a piece, or nothing
abbrev pub when : Bool → Piece → Piece
when true piece = piece
when false piece = p.Nothing

abbrev pub word : Word → Piece
word name = p.Token (t.Word name)

abbrev pub punctuator : Punctuator → Piece
punctuator mark = p.Token (t.Punctuator mark)

abbrev pub space : Piece
space = p.Blank Space

abbrev pub child : Category → Piece
child category = p.Child (record { category = category; least = 0; scope = s.Same })

abbrev pub operator_token : Option Operator → Piece
operator_token (Some (o.Mark mark)) = punctuator mark
operator_token (Some (o.Word name)) = word name
operator_token None = p.Nothing

abbrev pub operator_space : Option Operator → Piece
operator_space (Some (o.Mark mark)) = p.Nothing
operator_space (Some (o.Word name)) = space
operator_space None = p.Nothing

-- how the function runs, where words before its key tell it
abbrev pub flow_by : Access → Flow → Flow
flow_by a.Get flow = fl.Plain
flow_by a.Set flow = fl.Plain
flow_by a.Method flow = flow
flow_by a.Constructor flow = flow

abbrev pub told_flow : Form → Flow
told_flow form = flow_by (access_of form) (flow_of form)

abbrev pub access_word : Access → Piece
access_word a.Get = word w.Get
access_word a.Set = word w.Set
access_word a.Method = p.Nothing
access_word a.Constructor = p.Nothing

abbrev pub access_space : Access → Piece
access_space a.Get = space
access_space a.Set = space
access_space a.Method = p.Nothing
access_space a.Constructor = p.Nothing

abbrev pub key_category : Form → Category
key_category (f.Method _ _ _ _) = c.ClassKey
key_category (f.Field _ _) = c.ClassKey
key_category _ = c.ObjectKey

abbrev pub key_child : Category → Key → Piece
key_child category key.Plain = p.Child (record { category = category; least = 0; scope = s.Free })
key_child category key.Computed = p.Child (record { category = c.Expression; least = 1; scope = s.Free })

abbrev pub method_child : Access → Flow → Piece
method_child a.Get flow = child c.Getter
method_child a.Set flow = child c.Setter
method_child a.Method flow = child (c.Method flow)
method_child a.Constructor flow = child (c.Method flow)

abbrev pub literal : Sort → Piece
literal sort.Quoted = p.Text l.Quoted
literal sort.Number = p.Text l.Number
literal sort.BigInt = p.Text l.BigInt
literal sort.Regex = p.Text l.Regex
literal sort.True = word w.True
literal sort.False = word w.False
literal sort.Null = word w.Null

abbrev pub variable_word : Variable → Piece
variable_word v.Var = word w.Var
variable_word v.Let = word w.Let
variable_word v.Const = word w.Const

abbrev pub dot : Link → Piece
dot link.Plain = punctuator m.Dot
dot link.Optional = punctuator m.OptionalDot

abbrev pub static_name : Standing → Key → Piece
static_name standing.Instance key.Plain = p.Ahead (t.Word w.Static)
static_name _ _ = p.Ahead t.Never

-- the piece that it is in this form
abbrev pub told : Form → Own → Piece
told form own.Operator = operator_token (operator_of form)
told form own.OperatorSpace = operator_space (operator_of form)
told form own.Right = p.Child (record { category = c.Expression; least = right_level (operator_of form); scope = s.Same })
told form own.Async = when (is_async (told_flow form)) (word w.Async)
told form own.AsyncLine = when (is_async (told_flow form)) (p.Ahead t.SameLine)
told form own.AsyncSpace = when (is_async (told_flow form)) space
told form own.Star = when (is_generator (told_flow form)) (punctuator m.Star)
told form own.Static = when (is_static (standing_of form)) (word w.Static)
told form own.StaticSpace = when (is_static (standing_of form)) space
told form own.Access = access_word (access_of form)
told form own.AccessSpace = access_space (access_of form)
told form own.KeyOpen = when (is_computed (key_of form)) (punctuator m.OpenBracket)
told form own.Key = key_child (key_category form) (key_of form)
told form own.KeyClose = when (is_computed (key_of form)) (punctuator m.CloseBracket)
told form own.Method = method_child (access_of form) (flow_of form)
told form own.Literal = literal (sort_of form)
told form own.VariableWord = variable_word (variable_of form)
told form own.Dot = dot (link_of form)
told form own.Link = when (is_optional (link_of form)) (punctuator m.OptionalDot)
told form own.FieldName = p.Ahead (t.FieldName (standing_of form))
told form own.StaticName = static_name (standing_of form) (key_of form)

-- the piece, if need be as the form tells it
abbrev pub plain : Form → Piece → Piece
plain form (p.Own own) = told form own
plain _ piece = piece
