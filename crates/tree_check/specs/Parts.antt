-- What the rules say of a node by its kind, its scalars and its children.
use Rattle.std.specs.Prelude.{ℕ, zero, suc, Bool, true, false, not, ◌&&◌, ◌||◌, codes, Option, Some, None, slice_get}
use Rattle.tree_core.specs.Syntax.{Syntax, node, Slots, no_slots, slot, Places, no_places, hole, place}
use Rattle.tree_core.specs.View.{Spot}
use Rattle.tree_core.specs.Tests.{is_text_at, is_truth_at}
use Rattle.type_defs.specs.declared.kind.Kind.TheVariants as k
use Rattle.js_forms.specs.declared.form.Access.{Access}
use Rattle.js_forms.specs.declared.form.Access.TheVariants as a
use Rattle.js_forms.specs.declared.form.Form.{Form}
use Rattle.js_forms.specs.declared.form.Form.TheVariants as f
use Rattle.js_forms.specs.declared.form.Link.TheVariants as link
use Rattle.js_forms.specs.declared.form.Key.{Key}
use Rattle.js_forms.specs.declared.form.Key.TheVariants as key
use Rattle.js_forms.specs.declared.form.Standing.{Standing}
use Rattle.js_forms.specs.declared.form.Standing.TheVariants as standing
use Rattle.tree_forms.specs.Reading.{child, scalars_of}
use Rattle.tree_check.specs.Kinds.{is_rest}
use Rattle.tree_check.specs.Categories.{holds_super}
use Rattle.tree_check.specs.declared.rule.TheConstants.{MAX_DEPTH}

abbrev pub places_in : ℕ → Slots → Places
places_in n no_slots = no_places
places_in zero (slot list all more) = all
places_in (suc n) (slot list all more) = places_in n more

-- the places of the slot of this number
abbrev pub places_at : ℕ → Syntax → Places
places_at n (node kind found slots notes from) = places_in n slots

-- a member or a call with `?.`
abbrev pub is_optional_link : Syntax → Bool
is_optional_link (node k.MemberExpression found slots notes from) = is_truth_at true (slice_get found 1)
is_optional_link (node k.CallExpression found slots notes from) = is_truth_at true (slice_get found 0)
is_optional_link _ = false

-- the child with which a link goes on
abbrev pub link_below : Syntax → Option Syntax
link_below (node k.MemberExpression found slots notes from) = child 0 (node k.MemberExpression found slots notes from)
link_below (node k.CallExpression found slots notes from) = child 0 (node k.CallExpression found slots notes from)
link_below _ = None

-- an optional link is there, or below that by first children of links, within so many levels
unfoldable pub has_optional_link : ℕ → Option Syntax → Bool
has_optional_link zero found = false
has_optional_link (suc levels) None = false
has_optional_link (suc levels) (Some x) = is_optional_link x || has_optional_link levels (link_below x)

-- the node, if it is a chain, has an optional link, and if it is such a link, is in a chain and does
-- not belong to `super` (ECMA-262, clause 13.3.9)
abbrev pub is_chain_whole : Form → Bool → Syntax → Bool
is_chain_whole f.Chain on_spine x = has_optional_link MAX_DEPTH (child 0 x)
is_chain_whole (f.Dot link.Optional) on_spine x = on_spine && not (holds_super (child 0 x))
is_chain_whole (f.Index link.Optional) on_spine x = on_spine && not (holds_super (child 0 x))
is_chain_whole (f.Call link.Optional) on_spine x = on_spine && not (holds_super (child 0 x))
is_chain_whole _ on_spine x = true

-- the statement with which a statement ends
abbrev pub last_statement : Syntax → Option Syntax
last_statement (node k.IfStatement found slots notes from) = child 2 (node k.IfStatement found slots notes from)
last_statement (node k.WithStatement found slots notes from) = child 1 (node k.WithStatement found slots notes from)
last_statement (node k.LabeledStatement found slots notes from) = child 1 (node k.LabeledStatement found slots notes from)
last_statement (node k.WhileStatement found slots notes from) = child 1 (node k.WhileStatement found slots notes from)
last_statement (node k.ForInStatement found slots notes from) = child 2 (node k.ForInStatement found slots notes from)
last_statement (node k.ForOfStatement found slots notes from) = child 2 (node k.ForOfStatement found slots notes from)
last_statement (node k.ForStatement found slots notes from) = child 3 (node k.ForStatement found slots notes from)
last_statement _ = None

abbrev pub lacks : Option Syntax → Bool
lacks (Some x) = false
lacks None = true

-- an `if` without alternate
abbrev pub is_open_if : Syntax → Bool
is_open_if (node k.IfStatement found slots notes from) = lacks (child 2 (node k.IfStatement found slots notes from))
is_open_if _ = false

-- the statement is an `if` without alternate, or ends in one, within so many levels
unfoldable pub ends_in_open_if : ℕ → Option Syntax → Bool
ends_in_open_if zero found = false
ends_in_open_if (suc levels) None = false
ends_in_open_if (suc levels) (Some x) = is_open_if x || ends_in_open_if levels (last_statement x)

-- the `else` of the node, if it has one, belongs to it (ECMA-262, clause 14.6)
abbrev pub has_own_else : Form → Syntax → Bool
has_own_else f.If x = lacks (child 2 x) || not (ends_in_open_if MAX_DEPTH (child 1 x))
has_own_else _ x = true

-- a function that is neither async nor a generator
abbrev pub is_plain : Syntax → Bool
is_plain x = not (is_truth_at true (slice_get (scalars_of x) 0)) && not (is_truth_at true (slice_get (scalars_of x) 1))

abbrev pub is_empty : Places → Bool
is_empty no_places = true
is_empty (hole name more) = false
is_empty (place name x more) = false

abbrev pub is_rest_element : Syntax → Bool
is_rest_element (node kind found slots notes from) = is_rest kind

-- something stands there that is no rest element
abbrev pub is_parameter : Spot → Bool
is_parameter (name, None) = false
is_parameter (name, Some x) = not (is_rest_element x)

-- one parameter, which is no rest element
abbrev pub has_one_parameter : Places → Bool
has_one_parameter no_places = false
has_one_parameter (hole name more) = false
has_one_parameter (place name x more) = is_empty more && not (is_rest_element x)

-- the function is one of such a member: a getter has no parameter, a setter one (ECMA-262, clause 15.4)
abbrev pub is_function_of : Access → Syntax → Bool
is_function_of a.Get x = is_plain x && is_empty (places_at 1 x)
is_function_of a.Set x = is_plain x && has_one_parameter (places_at 1 x)
is_function_of a.Method x = true
is_function_of a.Constructor x = true

-- the value of such a member is a function of one, without a name
abbrev pub is_value_of : Access → Option Syntax → Bool
is_value_of access None = false
is_value_of access (Some x) = lacks (child 0 x) && is_function_of access x

-- the name `constructor`, as an identifier or as a string
abbrev pub is_constructor_name : Syntax → Bool
is_constructor_name (node k.Identifier found slots notes from) = is_text_at (codes "constructor") (slice_get found 0)
is_constructor_name (node k.Literal found slots notes from) = is_text_at (codes "string") (slice_get found 0) && is_text_at (codes "constructor") (slice_get found 1)
is_constructor_name _ = false

abbrev pub names_constructor : Option Syntax → Bool
names_constructor (Some x) = is_constructor_name x
names_constructor None = false

-- a class's method of this name makes its instances
abbrev pub makes_instances : Standing → Key → Syntax → Bool
makes_instances standing.Instance key.Plain x = names_constructor (child 0 x)
makes_instances standing.Instance key.Computed x = false
makes_instances standing.Static _ x = false

abbrev pub has_right_kind : Access → Standing → Key → Syntax → Bool
has_right_kind a.Get stands name x = true
has_right_kind a.Set stands name x = true
has_right_kind a.Method stands name x = not (makes_instances stands name x)
has_right_kind a.Constructor stands name x = makes_instances stands name x

-- the node, if it is a method or an accessor, has the function and the kind of one (ECMA-262, clauses
-- 15.4 and 15.7)
abbrev pub is_method_whole : Form → Syntax → Bool
is_method_whole (f.PropertyMethod access flow name) x = is_value_of access (child 1 x)
is_method_whole (f.Method access stands flow name) x = is_value_of access (child 1 x) && has_right_kind access stands name x
is_method_whole _ x = true

abbrev pub declares_name : Option Syntax → Bool
declares_name (Some (node k.Identifier found slots notes from)) = true
declares_name _ = false
