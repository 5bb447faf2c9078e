-- What surrounds a place, and how that changes on the way to a child (the parameters In, Yield and
-- Await of ECMA-262's grammar, clause 5.1.5).
use Rattle.std.specs.Prelude.{Bool, true, false, not, ◌&&◌}
use Rattle.js_forms.specs.Forms.{is_async, is_generator}
use Rattle.js_forms.specs.declared.form.Flow.{Flow}
use Rattle.js_forms.specs.declared.form.Flow.TheVariants as fl
use Rattle.js_forms.specs.declared.context.Scope.{Scope}
use Rattle.js_forms.specs.declared.context.Scope.TheVariants as s
use Rattle.js_forms.specs.declared.context.Context.{Context}

-- outside all functions
abbrev pub outermost : Context
outermost = record { in_async = true; in_generator = false; parameters = false; no_in = false; in_class = false; directives = false }

abbrev pub with_directives : Bool → Context → Context
with_directives value k = record { in_async = k.in_async; in_generator = k.in_generator; parameters = k.parameters; no_in = k.no_in; in_class = k.in_class; directives = value }

-- `in` is an operator, or is none
abbrev pub with_no_in : Bool → Context → Context
with_no_in value k = record { in_async = k.in_async; in_generator = k.in_generator; parameters = k.parameters; no_in = value; in_class = k.in_class; directives = false }

abbrev pub same : Context → Context
same k = with_directives false k

abbrev pub free : Context → Context
free k = with_no_in false k

abbrev pub in_function : Flow → Bool → Context → Context
in_function flow parameters k = record { in_async = is_async flow; in_generator = is_generator flow; parameters = parameters; no_in = false; in_class = k.in_class; directives = false }

-- in the body of an arrow that is an expression
abbrev pub in_arrow : Flow → Context → Context
in_arrow flow k = with_no_in k.no_in (in_function flow false k)

abbrev pub in_class : Context → Context
in_class k = record { in_async = k.in_async; in_generator = k.in_generator; parameters = k.parameters; no_in = false; in_class = true; directives = false }

-- at a child of a form whose function runs so
abbrev pub within : Scope → Flow → Context → Context
within s.Same flow k = same k
within s.Free flow k = free k
within s.WithoutIn flow k = with_no_in true k
within s.Parameters flow k = in_function flow true k
within s.Body flow k = in_function flow false k
within s.ArrowBody flow k = in_arrow flow k
within s.Class flow k = in_class k
within s.Field flow k = in_function fl.Plain false k
within s.Directives flow k = with_directives true k
within s.Stay flow k = k

abbrev pub takes_await : Context → Bool
takes_await k = k.in_async && not k.parameters

abbrev pub takes_yield : Context → Bool
takes_yield k = k.in_generator && not k.parameters
