-- What the fields of a form tell: how its function runs, and its operator.
use Rattle.std.specs.Prelude.{Bool, true, false, Option, Some, None}
use Rattle.js_forms.specs.declared.operator.Operator.{Operator}
use Rattle.js_forms.specs.declared.form.Flow.{Flow}
use Rattle.js_forms.specs.declared.form.Flow.TheVariants as fl
use Rattle.js_forms.specs.declared.form.Key.{Key}
use Rattle.js_forms.specs.declared.form.Key.TheVariants as key
use Rattle.js_forms.specs.declared.form.Link.{Link}
use Rattle.js_forms.specs.declared.form.Link.TheVariants as link
use Rattle.js_forms.specs.declared.form.Standing.{Standing}
use Rattle.js_forms.specs.declared.form.Standing.TheVariants as standing
use Rattle.js_forms.specs.declared.form.Form.{Form}
use Rattle.js_forms.specs.declared.form.Form.TheVariants as f

abbrev pub flow_with : Bool → Bool → Flow
flow_with false false = fl.Plain
flow_with true false = fl.Async
flow_with false true = fl.Generator
flow_with true true = fl.AsyncGenerator

abbrev pub is_async : Flow → Bool
is_async fl.Async = true
is_async fl.AsyncGenerator = true
is_async _ = false

abbrev pub is_generator : Flow → Bool
is_generator fl.Generator = true
is_generator fl.AsyncGenerator = true
is_generator _ = false

-- the node is a function of its own, to which `await` and `yield` in it belong
abbrev pub is_function : Form → Bool
is_function (f.Function _) = true
is_function (f.MethodValue _) = true
is_function f.GetterValue = true
is_function f.SetterValue = true
is_function (f.Arrow _) = true
is_function (f.FunctionDeclaration _) = true
is_function _ = false

-- how the function or method runs
abbrev pub flow_of : Form → Flow
flow_of (f.Function flow) = flow
flow_of (f.MethodValue flow) = flow
flow_of (f.Arrow flow) = flow
flow_of (f.FunctionDeclaration flow) = flow
flow_of (f.PropertyMethod _ flow _) = flow
flow_of (f.Method _ _ flow _) = flow
flow_of _ = fl.Plain

abbrev pub operator_of : Form → Option Operator
operator_of (f.Prefix operator) = Some operator
operator_of (f.Postfix operator) = Some operator
operator_of (f.Unary operator) = Some operator
operator_of (f.Binary operator) = Some operator
operator_of (f.Logical operator) = Some operator
operator_of (f.Assignment operator) = Some operator
operator_of _ = None

abbrev pub is_computed : Key → Bool
is_computed key.Plain = false
is_computed key.Computed = true

abbrev pub is_static : Standing → Bool
is_static standing.Instance = false
is_static standing.Static = true

abbrev pub is_optional : Link → Bool
is_optional link.Plain = false
is_optional link.Optional = true
