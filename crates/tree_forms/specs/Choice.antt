-- Which form spells a tree: by its kind, its scalars, what stands in its slots, and what its place takes
-- (ESTree; ECMA-262, clauses 12 to 16).
use Rattle.std.specs.Prelude.{ℕ, ◌&&◌, Bool, true, false, List, [], ◌∷◌, codes, Option, Some, None, slice_get, if◌then◌else◌}
use Rattle.std.specs.Option.{option_map, option_and_then}
use Rattle.tree_core.specs.declared.scalars.Scalar.{Scalar}
use Rattle.tree_core.specs.Syntax.{Syntax, node}
use Rattle.type_defs.specs.declared.kind.Kind.{Kind}
use Rattle.type_defs.specs.declared.kind.Kind.TheVariants as k
use Rattle.js_forms.specs.Table.{first_pieces}
use Rattle.js_forms.specs.Forms.{flow_with}
use Rattle.js_forms.specs.declared.piece.Spelling.{Spelling}
use Rattle.js_forms.specs.declared.piece.Spelling.TheVariants as v
use Rattle.js_forms.specs.Operators.{Row, has_role, operators, operator_spelling}
use Rattle.js_forms.specs.declared.category.Category.{Category}
use Rattle.js_forms.specs.declared.category.Category.TheVariants as c
use Rattle.js_forms.specs.declared.operator.Operator.{Operator}
use Rattle.js_forms.specs.declared.operator.Role.{Role}
use Rattle.js_forms.specs.declared.operator.Role.TheVariants as role
use Rattle.js_forms.specs.declared.form.Access.TheVariants as a
use Rattle.js_forms.specs.declared.form.Flow.{Flow}
use Rattle.js_forms.specs.declared.form.Flow.TheVariants as fl
use Rattle.js_forms.specs.declared.form.Key.{Key}
use Rattle.js_forms.specs.declared.form.Key.TheVariants as key
use Rattle.js_forms.specs.declared.form.Link.{Link}
use Rattle.js_forms.specs.declared.form.Link.TheVariants as link
use Rattle.js_forms.specs.declared.form.Sort.{Sort}
use Rattle.js_forms.specs.declared.form.Sort.TheVariants as sort
use Rattle.js_forms.specs.declared.form.Standing.{Standing}
use Rattle.js_forms.specs.declared.form.Standing.TheVariants as standing
use Rattle.js_forms.specs.declared.form.Variable.{Variable}
use Rattle.js_forms.specs.declared.form.Variable.TheVariants as word
use Rattle.js_forms.specs.declared.form.Form.{Form}
use Rattle.js_forms.specs.declared.form.Form.TheVariants as f
use Rattle.tree_forms.specs.declared.variant.Variant.{Variant}
use Rattle.tree_core.specs.Tests.{is_text_at, is_truth_at}
use Rattle.tree_forms.specs.Reading.{begins, scalars_of, child, second_child}
use Rattle.spelling_rules.specs.Shapes.{same_flow}

-- the first operator of such expressions that the scalar spells
abbrev pub operator_in : List Row → Role → Option Scalar → Option Operator
operator_in [] one found = None
operator_in (row ∷ more) one found = if has_role row.1 row.2 one && is_text_at (operator_spelling row.0) found then Some row.0 else operator_in more one found

abbrev pub key_at : Option Scalar → Key
key_at found = if is_truth_at true found then key.Computed else key.Plain

abbrev pub standing_at : Option Scalar → Standing
standing_at found = if is_truth_at true found then standing.Static else standing.Instance

abbrev pub link_at : Option Scalar → Link
link_at found = if is_truth_at true found then link.Optional else link.Plain

-- `async` and `generator` of a function
abbrev pub flow_in : List Scalar → Flow
flow_in found = flow_with (is_truth_at true (slice_get found 0)) (is_truth_at true (slice_get found 1))

abbrev pub flow_some : Option Syntax → Flow
flow_some (Some x) = flow_in (scalars_of x)
flow_some None = fl.Plain

-- how the value of a method runs
abbrev pub value_flow : Syntax → Flow
value_flow x = flow_some (child 1 x)

abbrev pub sort_in : List Scalar → Sort
sort_in found =
    if is_text_at (codes "string") (slice_get found 0) then sort.Quoted else
    (if is_text_at (codes "number") (slice_get found 0) then sort.Number else
    (if is_text_at (codes "bigint") (slice_get found 0) then sort.BigInt else
    (if is_text_at (codes "null") (slice_get found 0) then sort.Null else
    (if is_text_at (codes "regexp") (slice_get found 0) then sort.Regex else
    (if is_truth_at true (slice_get found 1) then sort.True else sort.False)))))

abbrev pub variable_in : List Scalar → Variable
variable_in found = if is_text_at (codes "var") (slice_get found 0) then word.Var else (if is_text_at (codes "let") (slice_get found 0) then word.Let else word.Const)

-- by `kind`, `method`, `shorthand` and `computed`
abbrev pub property : Syntax → Form
property x =
    if is_text_at (codes "get") (slice_get (scalars_of x) 0) then f.PropertyMethod a.Get fl.Plain (key_at (slice_get (scalars_of x) 3)) else
    (if is_text_at (codes "set") (slice_get (scalars_of x) 0) then f.PropertyMethod a.Set fl.Plain (key_at (slice_get (scalars_of x) 3)) else
    (if is_truth_at true (slice_get (scalars_of x) 1) then f.PropertyMethod a.Method (value_flow x) (key_at (slice_get (scalars_of x) 3)) else
    (if is_truth_at true (slice_get (scalars_of x) 2) then f.ShorthandProperty else f.Property (key_at (slice_get (scalars_of x) 3)))))

-- by `kind`, `static` and `computed`
abbrev pub method : Syntax → Form
method x =
    if is_text_at (codes "get") (slice_get (scalars_of x) 0) then f.Method a.Get (standing_at (slice_get (scalars_of x) 1)) fl.Plain (key_at (slice_get (scalars_of x) 2)) else
    (if is_text_at (codes "set") (slice_get (scalars_of x) 0) then f.Method a.Set (standing_at (slice_get (scalars_of x) 1)) fl.Plain (key_at (slice_get (scalars_of x) 2)) else
    (if is_text_at (codes "constructor") (slice_get (scalars_of x) 0) then f.Method a.Constructor (standing_at (slice_get (scalars_of x) 1)) (value_flow x) (key_at (slice_get (scalars_of x) 2)) else
    f.Method a.Method (standing_at (slice_get (scalars_of x) 1)) (value_flow x) (key_at (slice_get (scalars_of x) 2))))

abbrev pub pattern_property : List Scalar → Form
pattern_property found = if is_truth_at true (slice_get found 0) then f.PatternShorthand else f.PatternProperty (key_at (slice_get found 1))

abbrev pub member : List Scalar → Form
member found = if is_truth_at true (slice_get found 0) then f.Index (link_at (slice_get found 1)) else f.Dot (link_at (slice_get found 1))

abbrev pub meta : List Scalar → Form
meta found = if is_text_at (codes "new.target") (slice_get found 0) then f.NewTarget else f.ImportMeta

abbrev pub arrow : List Scalar → Form
arrow found = f.Arrow (flow_with (is_truth_at true (slice_get found 0)) false)

-- one form where the child is there, and another where it is not
abbrev pub by_child : Option Syntax → Form → Form → Form
by_child (Some x) there missing = there
by_child None there missing = missing

abbrev pub yielding : Syntax → Form
yielding x = if is_truth_at true (slice_get (scalars_of x) 0) then f.YieldStar else by_child (child 0 x) f.YieldValue f.Yield

-- a place takes names that may be any word
abbrev pub any_name_at : Category → Bool
any_name_at c.AnyName = true
any_name_at c.Member = true
any_name_at c.SuperMember = true
any_name_at c.ObjectKey = true
any_name_at c.ClassKey = true
any_name_at _ = false

abbrev pub name : Category → Form
name category = if any_name_at category then f.AnyName else f.Name

-- the value of an accessor, which is a plain function
abbrev pub accessor : Form → Flow → Form
accessor value fl.Plain = value
accessor value flow = f.Function flow

-- a function that runs so, as the value of a method or by itself
abbrev pub method_value : Category → Flow → Form
method_value (c.Method wanted) flow = if same_flow wanted flow then f.MethodValue flow else f.Function flow
method_value c.Getter flow = accessor f.GetterValue flow
method_value c.Setter flow = accessor f.SetterValue flow
method_value _ flow = f.Function flow

abbrev pub rest : Category → Form
rest c.BindingProperty = f.NameRest
rest c.AssignedProperty = f.NameRest
rest _ = f.Rest

abbrev pub block : Category → Form
block c.FunctionBody = f.FunctionBody
block c.ArrowBody = f.FunctionBody
block _ = f.Block

abbrev pub variables : Category → Variable → Form
variables c.ForInit variable = f.HeadVariables variable
variables c.ForLeft variable = f.HeadVariables variable
variables _ variable = f.Variables variable

abbrev pub case : Syntax → Form
case x = by_child (child 0 x) f.Case f.DefaultCase

abbrev pub for_of : List Scalar → Form
for_of found = if is_truth_at true (slice_get found 0) then f.ForAwait else f.ForOf

abbrev pub import_specifier : List Scalar → Form
import_specifier found = if is_truth_at true (slice_get found 0) then f.ImportShorthand else f.ImportSpecifier

abbrev pub export_specifier : List Scalar → Form
export_specifier found = if is_truth_at true (slice_get found 0) then f.ExportShorthand else f.ExportSpecifier

abbrev pub export_named : Syntax → Form
export_named x = by_child (child 0 x) f.ExportDeclaration f.ExportNames

-- the node declares a function or a class
abbrev pub is_function_or_class : Syntax → Bool
is_function_or_class (node k.FunctionDeclaration found slots notes from) = true
is_function_or_class (node k.ClassDeclaration found slots notes from) = true
is_function_or_class _ = false

-- the node is a pattern in brackets or braces
abbrev pub is_pattern : Syntax → Bool
is_pattern (node k.ArrayPattern found slots notes from) = true
is_pattern (node k.ObjectPattern found slots notes from) = true
is_pattern _ = false

abbrev pub holds : (Syntax → Bool) → Option Syntax → Bool
holds test (Some x) = test x
holds test None = false

abbrev pub export_default : Syntax → Form
export_default x = if holds is_function_or_class (child 0 x) then f.ExportDefaultDeclaration else f.ExportDefault

abbrev pub update : Bool → Operator → Form
update prefix operator = if prefix then f.Prefix operator else f.Postfix operator

-- the form of an expression that has an operator
abbrev pub operation : Kind → List Scalar → Option Form
operation k.UpdateExpression found = option_map (update (is_truth_at true (slice_get found 1))) (operator_in operators role.Update (slice_get found 0))
operation k.UnaryExpression found = option_map f.Unary (operator_in operators role.Unary (slice_get found 0))
operation k.BinaryExpression found = option_map f.Binary (operator_in operators role.Binary (slice_get found 0))
operation k.LogicalExpression found = option_map f.Logical (operator_in operators role.Logical (slice_get found 0))
operation k.AssignmentExpression found = option_map f.Assignment (operator_in operators role.Assignment (slice_get found 0))
operation _ found = None

-- the form of an expression, a pattern or a part of one
abbrev pub expression : Kind → Category → Syntax → Option Form
expression k.Identifier category x = Some (name category)
expression k.Literal category x = Some (f.Literal (sort_in (scalars_of x)))
expression k.ThisExpression category x = Some f.This
expression k.Super category x = Some f.Super
expression k.ArrayExpression category x = Some f.Array
expression k.ObjectExpression category x = Some f.Object
expression k.Property category x = Some (property x)
expression k.FunctionExpression category x = Some (method_value category (flow_in (scalars_of x)))
expression k.ArrowFunctionExpression category x = Some (arrow (scalars_of x))
expression k.ClassExpression category x = Some f.Class
expression k.ClassBody category x = Some f.ClassBody
expression k.MethodDefinition category x = Some (method x)
expression k.PropertyDefinition category x = Some (f.Field (standing_at (slice_get (scalars_of x) 1)) (key_at (slice_get (scalars_of x) 0)))
expression k.PrivateIdentifier category x = Some f.PrivateName
expression k.StaticBlock category x = Some f.StaticBlock
expression k.TemplateLiteral category x = Some f.Template
expression k.TemplateElement category x = Some f.TemplateElement
expression k.TaggedTemplateExpression category x = Some f.Tagged
expression k.MemberExpression category x = Some (member (scalars_of x))
expression k.CallExpression category x = Some (f.Call (link_at (slice_get (scalars_of x) 0)))
expression k.NewExpression category x = Some f.New
expression k.ImportExpression category x = Some f.ImportCall
expression k.ChainExpression category x = Some f.Chain
expression k.MetaProperty category x = Some (meta (scalars_of x))
expression k.AwaitExpression category x = Some f.Await
expression k.ConditionalExpression category x = Some f.Conditional
expression k.YieldExpression category x = Some (yielding x)
expression k.SequenceExpression category x = Some f.Sequence
expression k.SpreadElement category x = Some f.Spread
expression k.ArrayPattern category x = Some f.ArrayPattern
expression k.ObjectPattern category x = Some f.ObjectPattern
expression k.AssignmentProperty category x = Some (pattern_property (scalars_of x))
expression k.AssignmentPattern category x = Some f.Default
expression k.RestElement category x = Some (rest category)
expression kind category x = operation kind (scalars_of x)

-- the form of an import, an export or a part of one
abbrev pub module_item : Kind → Syntax → Option Form
module_item k.ImportDeclaration x = Some f.Import
module_item k.ImportSpecifier x = Some (import_specifier (scalars_of x))
module_item k.ImportDefaultSpecifier x = Some f.ImportDefault
module_item k.ImportNamespaceSpecifier x = Some f.ImportNamespace
module_item k.ExportNamedDeclaration x = Some (export_named x)
module_item k.ExportSpecifier x = Some (export_specifier (scalars_of x))
module_item k.ExportDefaultDeclaration x = Some (export_default x)
module_item k.ExportAllDeclaration x = Some f.ExportAll
module_item _ x = None

-- the form of the kind
abbrev pub chosen : Kind → Category → Syntax → Option Form
chosen k.Program category x = Some f.Program
chosen k.Directive category x = Some f.Directive
chosen k.ExpressionStatement category x = Some f.ExpressionStatement
chosen k.BlockStatement category x = Some (block category)
chosen k.EmptyStatement category x = Some f.Empty
chosen k.DebuggerStatement category x = Some f.Debugger
chosen k.WithStatement category x = Some f.With
chosen k.ReturnStatement category x = Some f.Return
chosen k.LabeledStatement category x = Some f.Labeled
chosen k.BreakStatement category x = Some f.Break
chosen k.ContinueStatement category x = Some f.Continue
chosen k.IfStatement category x = Some f.If
chosen k.SwitchStatement category x = Some f.Switch
chosen k.SwitchCase category x = Some (case x)
chosen k.ThrowStatement category x = Some f.Throw
chosen k.TryStatement category x = Some f.Try
chosen k.CatchClause category x = Some f.Catch
chosen k.WhileStatement category x = Some f.While
chosen k.DoWhileStatement category x = Some f.DoWhile
chosen k.ForStatement category x = Some f.For
chosen k.ForInStatement category x = Some f.ForIn
chosen k.ForOfStatement category x = Some (for_of (scalars_of x))
chosen k.VariableDeclaration category x = Some (variables category (variable_in (scalars_of x)))
chosen k.VariableDeclarator category x = Some f.Declarator
chosen k.FunctionDeclaration category x = Some (f.FunctionDeclaration (flow_in (scalars_of x)))
chosen k.ClassDeclaration category x = Some f.ClassDeclaration
chosen k.ImportDeclaration category x = module_item k.ImportDeclaration x
chosen k.ImportSpecifier category x = module_item k.ImportSpecifier x
chosen k.ImportDefaultSpecifier category x = module_item k.ImportDefaultSpecifier x
chosen k.ImportNamespaceSpecifier category x = module_item k.ImportNamespaceSpecifier x
chosen k.ExportNamedDeclaration category x = module_item k.ExportNamedDeclaration x
chosen k.ExportSpecifier category x = module_item k.ExportSpecifier x
chosen k.ExportDefaultDeclaration category x = module_item k.ExportDefaultDeclaration x
chosen k.ExportAllDeclaration category x = module_item k.ExportAllDeclaration x
chosen kind category x = expression kind category x

-- a place takes patterns that declare
abbrev pub declares_at : Category → Bool
declares_at c.Binding = true
declares_at c.BindingElement = true
declares_at c.BindingValue = true
declares_at c.BindingProperty = true
declares_at _ = false

-- the spelling of a pattern or of a part of one
abbrev pub pattern_spelling : Category → Spelling
pattern_spelling category = if declares_at category then v.Declares else v.Assigns

abbrev pub default_spelling : Category → Spelling
default_spelling c.ShortValue = v.Short
default_spelling category = pattern_spelling category

abbrev pub template_spelling : Category → Spelling
template_spelling c.Template = v.Tagged
template_spelling _ = v.Usual

abbrev pub head_spelling : Category → Spelling
head_spelling c.ForLeft = v.BeforeLoop
head_spelling _ = v.Usual

abbrev pub declaration_spelling : Category → Spelling
declaration_spelling c.DefaultDeclaration = v.Default
declaration_spelling _ = v.Usual

abbrev pub export_spelling : Category → Spelling
export_spelling c.OwnExport = v.WithoutSource
export_spelling _ = v.Usual

abbrev pub by_source : Option Syntax → Spelling
by_source (Some x) = v.Usual
by_source None = v.WithoutSource

-- an export of names
abbrev pub names_spelling : Syntax → Spelling
names_spelling x = by_source (child 2 x)

abbrev pub declared_spelling : Syntax → Spelling
declared_spelling x = if holds is_pattern (child 0 x) then v.PatternAlone else v.NameAlone

abbrev pub by_value : Option Syntax → Spelling → Spelling
by_value (Some x) other = v.WithValue
by_value None other = other

abbrev pub declarator_spelling : Syntax → Spelling
declarator_spelling x = by_value (child 1 x) (declared_spelling x)

-- the text of a key that is a name
abbrev pub is_name_spelled : List ℕ → Option Syntax → Bool
is_name_spelled text (Some (node k.Identifier found slots notes from)) = is_text_at text (slice_get found 0)
is_name_spelled text _ = false

abbrev pub static_spelling : Standing → Spelling
static_spelling standing.Instance = v.StaticName
static_spelling standing.Static = v.Usual

-- a field without a value, by its key, which is not computed
abbrev pub named_spelling : Standing → Option Syntax → Spelling
named_spelling place key =
    if is_name_spelled (codes "get") key then v.AccessorName else
    (if is_name_spelled (codes "set") key then v.AccessorName else
    (if is_name_spelled (codes "static") key then static_spelling place else v.Usual))

abbrev pub keyed_spelling : Standing → Key → Option Syntax → Spelling
keyed_spelling place key.Computed x = v.Usual
keyed_spelling place key.Plain x = named_spelling place x

abbrev pub field_spelling : Standing → Key → Syntax → Spelling
field_spelling place key x = by_value (child 1 x) (keyed_spelling place key (child 0 x))

-- an import, by its first two specifiers
abbrev pub behind_default : Option Syntax → Spelling
behind_default None = v.DefaultAlone
behind_default (Some (node k.ImportNamespaceSpecifier found slots notes from)) = v.DefaultAndNamespace
behind_default (Some x) = v.DefaultAndNames

abbrev pub specifiers_spelling : Option Syntax → Option Syntax → Spelling
specifiers_spelling None second = v.Usual
specifiers_spelling (Some (node k.ImportDefaultSpecifier found slots notes from)) second = behind_default second
specifiers_spelling (Some (node k.ImportNamespaceSpecifier found slots notes from)) second = v.Namespace
specifiers_spelling (Some x) second = v.Names

abbrev pub import_spelling : Syntax → Spelling
import_spelling x = specifiers_spelling (child 0 x) (second_child 0 x)

abbrev pub spelling : Form → Category → Syntax → Spelling
spelling f.ArrayPattern category x = pattern_spelling category
spelling f.ObjectPattern category x = pattern_spelling category
spelling (f.PatternProperty _) category x = pattern_spelling category
spelling f.Rest category x = pattern_spelling category
spelling f.NameRest category x = pattern_spelling category
spelling f.Default category x = default_spelling category
spelling f.Template category x = template_spelling category
spelling (f.Field place key) category x = field_spelling place key x
spelling f.Declarator category x = declarator_spelling x
spelling (f.HeadVariables _) category x = head_spelling category
spelling (f.FunctionDeclaration _) category x = declaration_spelling category
spelling f.ClassDeclaration category x = declaration_spelling category
spelling f.ExportNames category x = names_spelling x
spelling f.ExportSpecifier category x = export_spelling category
spelling f.ExportShorthand category x = export_spelling category
spelling f.Import category x = import_spelling x
spelling _ category x = v.Usual

-- the scalars that the form determines are those with which the node's begin
abbrev pub has_scalars : Form → Syntax → Bool
has_scalars form x = begins form (first_pieces form) 0 (scalars_of x)

abbrev pub fitting : Category → Syntax → Form → Option Variant
fitting category x form = if has_scalars form x then Some (record { form = form; spelling = spelling form category x }) else None

abbrev pub form_of_kind : Category → Syntax → Kind → Option Variant
form_of_kind category x kind = option_and_then (fitting category x) (chosen kind category x)

-- the form that made text gives the tree at a place that takes this
abbrev pub form : Category → Syntax → Option Variant
form category (node kind found slots notes from) = form_of_kind category (node kind found slots notes from) kind
