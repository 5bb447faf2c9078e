-- What the places of a form take, by the shape of what stands there (ECMA-262, clauses 13 to 16).
use Rattle.std.specs.Prelude.{ℕ, suc, ◌==◌, Bool, true, false, not, ◌&&◌, ◌||◌, List, [], ◌∷◌, Option, Some, None, nat_le, max, if◌then◌else◌, codes, bytes_eq}
use Rattle.tree_core.specs.Syntax.{Syntax, node, slot, Places, no_places, hole, place}
use Rattle.tree_core.specs.declared.scalars.Scalar.{Scalar}
use Rattle.tree_core.specs.declared.scalars.Scalar.TheVariants as scalar
use Rattle.tree_core.specs.View.{Row}
use Rattle.type_defs.specs.declared.kind.Kind.TheVariants as k
use Rattle.js_tokens.specs.declared.punctuator.Punctuator.TheVariants as m
use Rattle.js_tokens.specs.declared.word.Word.TheVariants as w
use Rattle.js_forms.specs.Levels.{first_child, spelled_level}
use Rattle.js_forms.specs.declared.levels.TheConstants.{CALL, PRIMARY}
use Rattle.js_forms.specs.declared.category.Category.{Category}
use Rattle.js_forms.specs.declared.category.Category.TheVariants as c
use Rattle.js_forms.specs.declared.form.Flow.{Flow}
use Rattle.js_forms.specs.declared.form.Flow.TheVariants as fl
use Rattle.js_forms.specs.declared.form.Access.TheVariants as a
use Rattle.js_forms.specs.declared.form.Key.TheVariants as key
use Rattle.js_forms.specs.declared.form.Link.TheVariants as link
use Rattle.js_forms.specs.declared.form.Sort.TheVariants as sort
use Rattle.js_forms.specs.declared.form.Standing.TheVariants as standing
use Rattle.js_forms.specs.declared.form.Variable.TheVariants as v
use Rattle.js_forms.specs.declared.form.Form.{Form}
use Rattle.js_forms.specs.declared.form.Form.TheVariants as f
use Rattle.js_forms.specs.declared.levels.Left.{Left}
use Rattle.js_forms.specs.declared.levels.Left.TheVariants as l
use Rattle.js_forms.specs.declared.operator.Operator.TheVariants as o
use Rattle.js_forms.specs.declared.context.Context.{Context}
use Rattle.js_forms.specs.declared.form.Variable.{Variable}
use Rattle.js_forms.specs.declared.piece.Place.{Place}
use Rattle.js_forms.specs.declared.piece.Spelling.{Spelling}
use Rattle.js_forms.specs.declared.piece.Spelling.TheVariants as spelling
use Rattle.js_forms.specs.Contexts.{takes_await, takes_yield}
use Rattle.js_forms.specs.Own.{variable_of}

-- how a stretch spells its tree: its form in which spelling, the level of an expression, whether it
-- stands in grouping parentheses, whether an optional link is bare in it, and the greatest level of the
-- expressions that end where it ends
pub record Shape : Type 0 where
  pub form : Form
  pub spelling : Spelling
  pub level : ℕ
  pub grouped : Bool
  pub chained : Bool
  pub most : ℕ

abbrev pub is_expression : Form → Bool
is_expression f.Name = true
is_expression (f.Literal _) = true
is_expression f.This = true
is_expression f.Array = true
is_expression f.Object = true
is_expression (f.Function _) = true
is_expression (f.Arrow _) = true
is_expression f.Class = true
is_expression f.Template = true
is_expression f.Tagged = true
is_expression (f.Dot _) = true
is_expression (f.Index _) = true
is_expression (f.Call _) = true
is_expression f.New = true
is_expression f.ImportCall = true
is_expression f.Chain = true
is_expression f.NewTarget = true
is_expression f.ImportMeta = true
is_expression (f.Prefix _) = true
is_expression (f.Postfix _) = true
is_expression (f.Unary _) = true
is_expression f.Await = true
is_expression f.Yield = true
is_expression f.YieldValue = true
is_expression f.YieldStar = true
is_expression (f.Binary _) = true
is_expression (f.Logical _) = true
is_expression f.Conditional = true
is_expression (f.Assignment _) = true
is_expression f.Sequence = true
is_expression _ = false

-- a template with a bad escape is no expression by itself
abbrev pub is_cooked : Form → Spelling → Bool
is_cooked f.Template spelling.Tagged = false
is_cooked _ spelling = true

-- an expression of at least this level, or a link of a chain
abbrev pub link_at : ℕ → Shape → Bool
link_at least x = is_expression x.form && is_cooked x.form x.spelling && nat_le least x.level

-- an expression of at least this level
abbrev pub level_at : ℕ → Shape → Bool
level_at least x = link_at least x && not x.chained

abbrev pub is_simple_form : Form → Bool
is_simple_form f.Name = true
is_simple_form (f.Dot _) = true
is_simple_form (f.Index _) = true
is_simple_form _ = false

-- what may be assigned to, and is no pattern (clause 13.15.1)
abbrev pub is_simple : Shape → Bool
is_simple x = is_simple_form x.form && not x.chained

abbrev pub is_coalescing_form : Form → Bool
is_coalescing_form (f.Logical (o.Mark m.Nullish)) = true
is_coalescing_form _ = false

abbrev pub is_coalescing : Shape → Bool
is_coalescing x = is_coalescing_form x.form && not x.grouped

abbrev pub is_super : Form → Bool
is_super f.Super = true
is_super _ = false

abbrev pub is_private : Form → Bool
is_private f.PrivateName = true
is_private _ = false

abbrev pub is_new : Form → Bool
is_new f.New = true
is_new _ = false

abbrev pub is_spread : Form → Bool
is_spread f.Spread = true
is_spread _ = false

-- the last of its list, with no comma behind it
abbrev pub is_rest : Form → Bool
is_rest f.Rest = true
is_rest f.NameRest = true
is_rest _ = false

abbrev pub is_directive : Form → Bool
is_directive f.Directive = true
is_directive _ = false

-- a statement as the body of another
abbrev pub is_statement : Form → Bool
is_statement f.ExpressionStatement = true
is_statement f.Block = true
is_statement f.Empty = true
is_statement f.Debugger = true
is_statement f.With = true
is_statement f.Return = true
is_statement f.Labeled = true
is_statement f.Break = true
is_statement f.Continue = true
is_statement f.If = true
is_statement f.Switch = true
is_statement f.Throw = true
is_statement f.Try = true
is_statement f.While = true
is_statement f.DoWhile = true
is_statement f.For = true
is_statement f.ForIn = true
is_statement f.ForOf = true
is_statement f.ForAwait = true
is_statement (f.Variables v.Var) = true
is_statement _ = false

abbrev pub is_usual : Spelling → Bool
is_usual spelling.Usual = true
is_usual _ = false

abbrev pub is_default_spelling : Spelling → Bool
is_default_spelling spelling.Default = true
is_default_spelling _ = false

-- of a pattern that declares, of one that assigns, of a default in a shorthand
abbrev pub declares : Spelling → Bool
declares spelling.Declares = true
declares _ = false

abbrev pub assigns : Spelling → Bool
assigns spelling.Assigns = true
assigns _ = false

abbrev pub is_short_spelling : Spelling → Bool
is_short_spelling spelling.Short = true
is_short_spelling _ = false

abbrev pub is_tagged : Spelling → Bool
is_tagged spelling.Tagged = true
is_tagged _ = false

abbrev pub lacks_source : Spelling → Bool
lacks_source spelling.WithoutSource = true
lacks_source _ = false

abbrev pub is_before_loop : Spelling → Bool
is_before_loop spelling.BeforeLoop = true
is_before_loop _ = false

-- a declaration; one of a function or a class without a name is of another spelling
abbrev pub is_declaration : Form → Spelling → Bool
is_declaration (f.Variables _) spelling = true
is_declaration (f.FunctionDeclaration _) spelling = is_usual spelling
is_declaration f.ClassDeclaration spelling = is_usual spelling
is_declaration _ spelling = false

-- what `export default` declares
abbrev pub is_default_declaration : Form → Spelling → Bool
is_default_declaration (f.FunctionDeclaration _) spelling = is_default_spelling spelling
is_default_declaration f.ClassDeclaration spelling = is_default_spelling spelling
is_default_declaration _ spelling = false

abbrev pub is_item : Form → Spelling → Bool
is_item form spelling = is_statement form || is_declaration form spelling || is_directive form

abbrev pub is_module_form : Form → Bool
is_module_form f.Import = true
is_module_form f.ExportDeclaration = true
is_module_form f.ExportNames = true
is_module_form f.ExportDefault = true
is_module_form f.ExportDefaultDeclaration = true
is_module_form f.ExportAll = true
is_module_form _ = false

-- of these forms, in a spelling of which this is true
abbrev pub is_pattern : Bool → Form → Bool
is_pattern which f.ArrayPattern = which
is_pattern which f.ObjectPattern = which
is_pattern which _ = false

abbrev pub is_default : Bool → Form → Bool
is_default which f.Default = which
is_default which _ = false

abbrev pub is_rest_of : Bool → Form → Bool
is_rest_of which f.Rest = which
is_rest_of which _ = false

abbrev pub is_property_of : Bool → Form → Bool
is_property_of which (f.PatternProperty _) = which
is_property_of which f.NameRest = which
is_property_of which f.PatternShorthand = true
is_property_of which _ = false

abbrev pub is_name_form : Form → Bool
is_name_form f.Name = true
is_name_form _ = false

abbrev pub is_any_name : Form → Bool
is_any_name f.AnyName = true
is_any_name _ = false

abbrev pub is_string : Form → Bool
is_string (f.Literal sort.Quoted) = true
is_string _ = false

-- a key that is not in brackets (clause 13.2.5)
abbrev pub is_key : Form → Bool
is_key f.AnyName = true
is_key (f.Literal sort.Quoted) = true
is_key (f.Literal sort.Number) = true
is_key (f.Literal sort.BigInt) = true
is_key _ = false

abbrev pub is_object_item : Form → Bool
is_object_item (f.Property _) = true
is_object_item f.ShorthandProperty = true
is_object_item (f.PropertyMethod _ _ _) = true
is_object_item f.Spread = true
is_object_item _ = false

abbrev pub is_class_item : Form → Bool
is_class_item (f.Method _ _ _ _) = true
is_class_item (f.Field _ _) = true
is_class_item f.StaticBlock = true
is_class_item _ = false

abbrev pub is_case : Form → Bool
is_case f.Case = true
is_case f.DefaultCase = true
is_case _ = false

abbrev pub same_flow : Flow → Flow → Bool
same_flow fl.Plain fl.Plain = true
same_flow fl.Async fl.Async = true
same_flow fl.Generator fl.Generator = true
same_flow fl.AsyncGenerator fl.AsyncGenerator = true
same_flow _ _ = false

abbrev pub is_method_value : Flow → Form → Bool
is_method_value flow (f.MethodValue other) = same_flow flow other
is_method_value flow _ = false

abbrev pub is_export_specifier : Form → Bool
is_export_specifier f.ExportSpecifier = true
is_export_specifier f.ExportShorthand = true
is_export_specifier _ = false

-- a name, or a name with a default
abbrev pub is_short : Form → Spelling → Bool
is_short form spelling = is_name_form form || is_default (is_short_spelling spelling) form

-- the forms that a place for a name, a key or a pattern takes (clauses 13.15.5 and 14.3.3)
abbrev pub takes_name : Category → Form → Spelling → Bool
takes_name c.Binding form spelling = is_name_form form || is_pattern (declares spelling) form
takes_name c.BindingValue form spelling = is_name_form form || is_pattern (declares spelling) form || is_default (declares spelling) form
takes_name c.BindingElement form spelling = is_name_form form || is_pattern (declares spelling) form || is_default (declares spelling) form || is_rest_of (declares spelling) form
takes_name c.BindingProperty form spelling = is_property_of (declares spelling) form
takes_name c.Assigned form spelling = is_pattern (assigns spelling) form
takes_name c.AssignedValue form spelling = is_pattern (assigns spelling) form || is_default (assigns spelling) form
takes_name c.AssignedElement form spelling = is_pattern (assigns spelling) form || is_default (assigns spelling) form || is_rest_of (assigns spelling) form
takes_name c.AssignedProperty form spelling = is_property_of (assigns spelling) form
takes_name c.Name form spelling = is_name_form form
takes_name c.AnyName form spelling = is_any_name form
takes_name c.SuperMember form spelling = is_any_name form
takes_name c.Member form spelling = is_any_name form || is_private form
takes_name c.ObjectKey form spelling = is_key form
takes_name c.ClassKey form spelling = is_key form || is_private form
takes_name c.ShortValue form spelling = is_short form spelling
takes_name c.Source form spelling = is_string form
takes_name _ _ spelling = false

abbrev pub is_head_form : Form → Bool
is_head_form (f.HeadVariables _) = true
is_head_form _ = false

abbrev pub is_declarator : Form → Bool
is_declarator f.Declarator = true
is_declarator _ = false

abbrev pub has_value : Spelling → Bool
has_value spelling.WithValue = true
has_value _ = false

abbrev pub has_value_or_name : Spelling → Bool
has_value_or_name spelling.WithValue = true
has_value_or_name spelling.NameAlone = true
has_value_or_name _ = false

-- a constant and a pattern have a value (clause 14.3.1)
abbrev pub is_declared : Variable → Spelling → Bool
is_declared v.Const spelling = has_value spelling
is_declared v.Let spelling = has_value_or_name spelling
is_declared v.Var spelling = has_value_or_name spelling

-- the parts of imports and exports (clause 16.2), and what heads of `for` declare (clause 14.7)
abbrev pub takes_part : Category → Form → Spelling → Bool
takes_part c.ImportSpecifier f.ImportSpecifier spelling = true
takes_part c.ImportSpecifier f.ImportShorthand spelling = true
takes_part c.ImportDefault f.ImportDefault spelling = true
takes_part c.ImportNamespace f.ImportNamespace spelling = true
takes_part c.ExportSpecifier form spelling = is_export_specifier form && is_usual spelling
takes_part c.OwnExport form spelling = is_export_specifier form && lacks_source spelling
takes_part c.DefaultDeclaration form spelling = is_default_declaration form spelling
takes_part c.ForInit form spelling = is_head_form form && is_usual spelling
takes_part c.ForLeft form spelling = is_head_form form && is_before_loop spelling
takes_part c.LoneDeclarator form spelling = is_declarator form && not (has_value spelling)
takes_part category form spelling = takes_name category form spelling

-- the forms that a place of the table takes in no parentheses
abbrev pub takes_bare : Category → Form → Spelling → Bool
takes_bare c.Item form spelling = is_item form spelling
takes_bare c.ModuleItem form spelling = is_item form spelling || is_module_form form
takes_bare c.Statement form spelling = is_statement form
takes_bare c.Declaration form spelling = is_declaration form spelling
takes_bare c.Block f.Block spelling = true
takes_bare c.FunctionBody f.FunctionBody spelling = true
takes_bare c.ArrowBody f.FunctionBody spelling = true
takes_bare c.ClassBody f.ClassBody spelling = true
takes_bare c.ClassItem form spelling = is_class_item form
takes_bare c.Case form spelling = is_case form
takes_bare c.Catch f.Catch spelling = true
takes_bare c.ObjectItem form spelling = is_object_item form
takes_bare c.Argument form spelling = is_spread form
takes_bare c.Element form spelling = is_spread form
takes_bare c.Callee form spelling = is_new form
takes_bare c.Template f.Template spelling = is_tagged spelling
takes_bare (c.Method flow) form spelling = is_method_value flow form
takes_bare c.Getter f.GetterValue spelling = true
takes_bare c.Setter f.SetterValue spelling = true
takes_bare category form spelling = takes_part category form spelling

-- the expressions that it takes, in parentheses or not
abbrev pub takes_expression : Category → ℕ → Shape → Bool
takes_expression c.Expression least x = level_at least x
takes_expression c.Cover least x = level_at least x
takes_expression c.Argument least x = level_at least x
takes_expression c.Element least x = level_at least x
takes_expression c.Callee least x = level_at least x
takes_expression c.ArrowBody least x = level_at least x
takes_expression c.ForInit least x = level_at least x
takes_expression c.Target least x = is_simple x
takes_expression c.Assigned least x = is_simple x
takes_expression c.AssignedValue least x = is_simple x
takes_expression c.AssignedElement least x = is_simple x
takes_expression _ least x = false

-- the place takes it by its shape alone
abbrev pub takes_shape : Category → ℕ → Shape → Bool
takes_shape category least x = takes_expression category least x || (not x.grouped && takes_bare category x.form x.spelling)

-- `super` is an object, a private name the left side of `in`
abbrev pub takes_left : Left → Form → Shape → Bool
takes_left (l.Level least) (f.Dot _) x = link_at least x
takes_left (l.Level least) (f.Index _) x = link_at least x
takes_left (l.Level least) (f.Call _) x = link_at least x
takes_left (l.Level least) (f.Binary (o.Word w.In)) x = level_at least x || is_private x.form
takes_left (l.Level least) _ x = level_at least x
takes_left (l.Coalescing least) _ x = level_at least x || is_coalescing x
takes_left (l.Other least) _ x = level_at least x && not (is_coalescing x)
takes_left l.Object _ x = link_at CALL x || is_super x.form
takes_left l.Simple (f.Assignment (o.Mark m.Assign)) x = takes_shape c.Assigned 0 x
takes_left l.Simple _ x = is_simple x

abbrev pub first_text : List Scalar → List ℕ
first_text (scalar.Text units ∷ more) = units
first_text _ = []

abbrev pub text_of : Syntax → List ℕ
text_of (node kind scalars slots notes from) = first_text scalars

-- the child by which a form goes on: a string where directives stand would be one; the name `async`
-- stands before no `of` but that of `for await` (ECMA-262, clause 14.7.5)
abbrev pub takes_operand : Form → Context → Shape → Syntax → Bool
takes_operand f.ExpressionStatement k x tree = level_at 0 x && not (k.directives && is_string x.form && not x.grouped)
takes_operand f.Chain k x tree = link_at CALL x && x.chained
takes_operand f.ForIn k x tree = takes_shape c.Assigned 0 x
takes_operand f.ForOf k x tree = takes_shape c.Assigned 0 x && not (is_name_form x.form && not x.grouped && bytes_eq (text_of tree) (codes "async"))
takes_operand f.ForAwait k x tree = takes_shape c.Assigned 0 x
takes_operand form k x tree = takes_left (first_child form) form x

abbrev pub takes_at : Category → ℕ → Form → Context → Shape → Syntax → Bool
takes_at c.Operand least form k x tree = takes_operand form k x tree
takes_at c.ForLeft least form k x tree = takes_shape c.ForLeft least x || takes_operand form k x tree
takes_at c.Declarator least form k x tree = is_declarator x.form && is_declared (variable_of form) x.spelling
takes_at category least _ k x tree = takes_shape category least x

-- a place of this form takes the tree in this shape
abbrev pub takes : Form → Place → Context → Shape → Syntax → Bool
takes form at k x tree = takes_at at.category at.least form k x tree

-- a member or a tagged template over a bare expression of level 17 has that level too
abbrev pub level_over : Form → ℕ → Option Shape → ℕ
level_over (f.Dot _) level (Some x) = if x.level == CALL then CALL else level
level_over (f.Index _) level (Some x) = if x.level == CALL then CALL else level
level_over f.Tagged level (Some x) = if x.level == CALL then CALL else level
level_over _ level first = level

abbrev pub chains : Option Shape → Bool
chains (Some x) = x.chained
chains None = false

-- an optional link is bare in the node
abbrev pub is_chained : Form → Option Shape → Bool
is_chained (f.Dot link.Optional) first = true
is_chained (f.Index link.Optional) first = true
is_chained (f.Call link.Optional) first = true
is_chained (f.Dot link.Plain) first = chains first
is_chained (f.Index link.Plain) first = chains first
is_chained (f.Call link.Plain) first = chains first
is_chained _ first = false

-- the shape of a node of this form in this spelling, with this first child, over these ends
abbrev pub shape_of : Form → Spelling → Option Shape → ℕ → Shape
shape_of form spelling first most =
    let own = level_over form (spelled_level form spelling) first in
    record { form = form; spelling = spelling; level = own; grouped = false; chained = is_chained form first; most = if is_expression form then max own most else most }

-- in grouping parentheses
abbrev pub in_parentheses : Shape → Shape
in_parentheses x = record { form = x.form; spelling = x.spelling; level = PRIMARY; grouped = true; chained = false; most = PRIMARY }

-- the greatest level of the ends of a statement that ends with this child: names and sources have none
abbrev pub ends_at : Category → ℕ → ℕ
ends_at c.Expression most = most
ends_at c.Cover most = most
ends_at c.Callee most = most
ends_at c.Target most = most
ends_at c.Operand most = most
ends_at c.ArrowBody most = most
ends_at c.Declarator most = most
ends_at _ most = 0

abbrev pub ends : Place → Shape → ℕ
ends at x = ends_at at.category x.most

-- the form may stand in these surroundings
abbrev pub stands : Form → Context → Bool
stands f.Await k = takes_await k
stands f.ForAwait k = takes_await k
stands f.Yield k = takes_yield k
stands f.YieldValue k = takes_yield k
stands f.YieldStar k = takes_yield k
stands (f.Binary (o.Word w.In)) k = not k.no_in
stands f.PrivateName k = k.in_class
stands f.Directive k = k.directives
stands _ k = true

abbrev pub first_place : Places → Option Syntax
first_place (place name t more) = Some t
first_place _ = None

abbrev pub first_child_of : List Row → Option Syntax
first_child_of ((list, places) ∷ more) = first_place places
first_child_of [] = None

abbrev pub second_child_of : List Row → Option Syntax
second_child_of (row ∷ more) = first_child_of more
second_child_of [] = None

abbrev pub is_super_node : Option Syntax → Bool
is_super_node (Some (node k.Super scalars slots notes from)) = true
is_super_node _ = false

abbrev pub is_private_name : Option Syntax → Bool
is_private_name (Some (node k.PrivateIdentifier scalars slots notes from)) = true
is_private_name _ = false

abbrev pub spells_constructor : List Scalar → Bool
spells_constructor scalars = bytes_eq (first_text scalars) (codes "constructor")

abbrev pub string_constructor : List Scalar → Bool
string_constructor (scalar.Text sort ∷ more) = bytes_eq sort (codes "string") && spells_constructor more
string_constructor _ = false

-- the key is the name or the string `constructor`
abbrev pub is_constructor : Option Syntax → Bool
is_constructor (Some (node k.Identifier scalars slots notes from)) = spells_constructor scalars
is_constructor (Some (node k.Literal scalars slots notes from)) = string_constructor scalars
is_constructor _ = false

abbrev pub is_private_constructor : Option Syntax → Bool
is_private_constructor (Some (node k.PrivateIdentifier scalars slots notes from)) = spells_constructor scalars
is_private_constructor _ = false

-- cases without a test
abbrev pub defaults : Places → ℕ
defaults no_places = 0
defaults (hole name more) = defaults more
defaults (place name (node kind scalars (slot false (hole other no_places) slots) notes from) more) = suc (defaults more)
defaults (place name t more) = defaults more

abbrev pub cases_of : List Row → Places
cases_of (test ∷ (list, places) ∷ more) = places
cases_of _ = no_places

-- what is said of the children together: the constructor of a class is the method of that name, a
-- switch has at most one default, no private name stands behind `super`
abbrev pub lawful : Form → List Row → Bool
lawful (f.Method a.Constructor _ _ _) rows = is_constructor (first_child_of rows)
lawful (f.Method a.Method standing.Instance _ key.Plain) rows = not (is_constructor (first_child_of rows)) && not (is_private_constructor (first_child_of rows))
lawful (f.Method _ _ _ key.Plain) rows = not (is_private_constructor (first_child_of rows))
lawful (f.Field _ key.Plain) rows = not (is_private_constructor (first_child_of rows))
lawful f.Switch rows = nat_le (defaults (cases_of rows)) 1
lawful (f.Dot _) rows = not (is_super_node (first_child_of rows) && is_private_name (second_child_of rows))
lawful _ rows = true
