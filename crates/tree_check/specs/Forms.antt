-- What the rules say of forms: by what surrounds their places, and by the fields of the forms.
use Rattle.std.specs.Prelude.{Bool, true, false, ◌&&◌}
use Rattle.js_forms.specs.Contexts.{takes_await, takes_yield}
use Rattle.js_forms.specs.declared.context.Context.{Context}
use Rattle.js_forms.specs.declared.form.Access.TheVariants as a
use Rattle.js_forms.specs.declared.form.Flow.{Flow}
use Rattle.js_forms.specs.declared.form.Flow.TheVariants as fl
use Rattle.js_forms.specs.declared.form.Key.{Key}
use Rattle.js_forms.specs.declared.form.Key.TheVariants as key
use Rattle.js_forms.specs.declared.form.Standing.TheVariants as standing
use Rattle.js_forms.specs.declared.form.Form.{Form}
use Rattle.js_forms.specs.declared.form.Form.TheVariants as f

-- `await` or `yield` is an operator there, if a node of the form needs that (ECMA-262, clauses 15.5
-- and 15.8)
abbrev pub has_operator_context : Form → Context → Bool
has_operator_context f.Await c = takes_await c
has_operator_context f.ForAwait c = takes_await c
has_operator_context f.Yield c = takes_yield c
has_operator_context f.YieldValue c = takes_yield c
has_operator_context f.YieldStar c = takes_yield c
has_operator_context _ c = true

-- it is in a class body there, if the form is that of a private name
abbrev pub is_private_in_class : Form → Context → Bool
is_private_in_class f.PrivateName c = c.in_class
is_private_in_class _ c = true

-- a first child of the form goes on with the chain that the form is or belongs to
abbrev pub goes_on : Form → Bool → Bool
goes_on f.Chain on_spine = true
goes_on (f.Dot _) on_spine = on_spine
goes_on (f.Index _) on_spine = on_spine
goes_on (f.Call _) on_spine = on_spine
goes_on _ on_spine = false

abbrev pub runs_async : Flow → Bool
runs_async fl.Async = true
runs_async _ = false

abbrev pub is_key_plain : Key → Bool
is_key_plain key.Plain = true
is_key_plain key.Computed = false

-- a method whose key stands right behind `async`, so that no line ends between them
abbrev pub has_async_key : Form → Bool
has_async_key (f.PropertyMethod a.Method flow name) = runs_async flow && is_key_plain name
has_async_key (f.Method a.Method standing.Instance flow name) = runs_async flow && is_key_plain name
has_async_key (f.Method a.Constructor standing.Instance flow name) = runs_async flow && is_key_plain name
has_async_key _ = false
