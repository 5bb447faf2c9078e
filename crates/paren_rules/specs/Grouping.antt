-- Where expressions stand in grouping parentheses (ECMA-262, clauses 13.2 to 13.16, 14.5, 14.7 and 16.2.3).
use Rattle.std.specs.Prelude.{ℕ, max, nat_lt, Bool, true, false, not, ◌&&◌, ◌||◌, List, codes, Option, Some, None, slice_get}
use Rattle.tree_core.specs.declared.scalars.Scalar.{Scalar}
use Rattle.tree_core.specs.Syntax.{Syntax, node}
use Rattle.tree_core.specs.Tests.{is_text_at}
use Rattle.type_defs.specs.declared.kind.Kind.{Kind}
use Rattle.type_defs.specs.declared.kind.Kind.TheVariants as k
use Rattle.js_forms.specs.Levels.{first_child}
use Rattle.js_forms.specs.declared.levels.TheConstants.{ASSIGNMENT, CALL}
use Rattle.js_forms.specs.declared.levels.Left.{Left}
use Rattle.js_forms.specs.declared.levels.Left.TheVariants as l
use Rattle.js_forms.specs.declared.piece.Place.{Place}
use Rattle.js_forms.specs.declared.category.Category.{Category}
use Rattle.js_forms.specs.declared.category.Category.TheVariants as c
use Rattle.js_forms.specs.declared.form.Form.{Form}
use Rattle.js_forms.specs.declared.form.Form.TheVariants as f
use Rattle.tree_forms.specs.Edges.{takes_groups, is_expression}
use Rattle.tree_forms.specs.Reading.{child, scalars_of}
use Rattle.paren_rules.specs.declared.grouping.Start.{Start}
use Rattle.paren_rules.specs.declared.grouping.Start.TheVariants as s
use Rattle.paren_rules.specs.declared.grouping.Spot.{Spot}

abbrev pub kind_of : Syntax → Kind
kind_of (node kind scalars slots notes from) = kind

-- the first scalar is this text
abbrev pub first_is : List ℕ → Syntax → Bool
first_is text x = is_text_at text (slice_get (scalars_of x) 0)

abbrev pub may_group : Place → Syntax → Bool → Bool
may_group place x optional = takes_groups place.category && (is_expression (kind_of x) && not optional)

abbrev pub is_logical : Kind → Bool
is_logical k.LogicalExpression = true
is_logical _ = false

abbrev pub is_nullish : Syntax → Bool
is_nullish x = is_logical (kind_of x) && first_is (codes "??") x

abbrev pub is_super : Kind → Bool
is_super k.Super = true
is_super _ = false

-- an expression of this level stands bare there
abbrev pub too_loose_for : Left → Syntax → ℕ → Bool
too_loose_for (l.Level least) x level = nat_lt level least
too_loose_for (l.Coalescing least) x level = nat_lt level least && not (is_nullish x)
too_loose_for (l.Other least) x level = nat_lt level least || is_nullish x
too_loose_for l.Object x level = nat_lt level CALL && not (is_super (kind_of x))
too_loose_for l.Simple x level = false

abbrev pub first_too_loose : Option Form → Syntax → ℕ → Bool
first_too_loose None x level = false
first_too_loose (Some f.Chain) x level = nat_lt level CALL
first_too_loose (Some form) x level = too_loose_for (first_child form) x level

-- the level is too low for the place
abbrev pub at_place : Category → Option Form → ℕ → Syntax → ℕ → Bool
at_place c.Operand owner least x level = first_too_loose owner x level
at_place c.Argument owner least x level = nat_lt level (max least ASSIGNMENT)
at_place c.Element owner least x level = nat_lt level (max least ASSIGNMENT)
at_place c.Cover owner least x level = nat_lt level (max least ASSIGNMENT)
at_place c.ArrowBody owner least x level = nat_lt level (max least ASSIGNMENT)
at_place c.Expression owner least x level = nat_lt level least
at_place c.Callee owner least x level = nat_lt level least
at_place c.ForInit owner least x level = nat_lt level least
at_place _ owner least x level = false

abbrev pub binds_too_loosely : Option Form → Place → Syntax → ℕ → Bool
binds_too_loosely owner place x level = at_place place.category owner place.least x level

abbrev pub is_function_or_class : Kind → Bool
is_function_or_class k.FunctionExpression = true
is_function_or_class k.ClassExpression = true
is_function_or_class _ = false

abbrev pub is_object_pattern : Option Syntax → Bool
is_object_pattern (Some (node k.ObjectPattern scalars slots notes from)) = true
is_object_pattern _ = false

abbrev pub is_assignment : Kind → Bool
is_assignment k.AssignmentExpression = true
is_assignment _ = false

abbrev pub is_object : Kind → Bool
is_object k.ObjectExpression = true
is_object _ = false

abbrev pub begins_with_brace : Syntax → Bool
begins_with_brace x = is_object (kind_of x) || (is_assignment (kind_of x) && is_object_pattern (child 0 x))

-- no such expression stands bare where its first token is the first of that
abbrev pub starts_badly : Start → Syntax → Bool
starts_badly s.Inside x = false
starts_badly s.Statement x = is_function_or_class (kind_of x) || begins_with_brace x
starts_badly s.Default x = is_function_or_class (kind_of x)
starts_badly s.ArrowBody x = begins_with_brace x

abbrev pub is_binary : Kind → Bool
is_binary k.BinaryExpression = true
is_binary _ = false

abbrev pub is_in : Syntax → Bool
is_in x = is_binary (kind_of x) && first_is (codes "in") x

abbrev pub is_for_of : Option Form → Bool
is_for_of (Some f.ForOf) = true
is_for_of _ = false

abbrev pub is_for_left : Category → Bool
is_for_left c.ForLeft = true
is_for_left _ = false

abbrev pub is_identifier : Kind → Bool
is_identifier k.Identifier = true
is_identifier _ = false

-- the bare name `async` before `of`, where the loop awaits nothing
abbrev pub is_async_of : Spot → Syntax → Bool
is_async_of spot x = is_for_of spot.owner && (is_for_left spot.place.category && (is_identifier (kind_of x) && first_is (codes "async") x))

abbrev pub is_statement : Option Form → Bool
is_statement (Some f.ExpressionStatement) = true
is_statement _ = false

abbrev pub is_literal : Kind → Bool
is_literal k.Literal = true
is_literal _ = false

-- a string that would be a directive
abbrev pub is_directive : Spot → Syntax → Bool
is_directive spot x = spot.context.directives && (is_statement spot.owner && (is_literal (kind_of x) && first_is (codes "string") x))

-- the expression, of this level, stands in parentheses at the place, where it may
abbrev pub needs_parens : Spot → Syntax → ℕ → Bool
needs_parens spot x level = binds_too_loosely spot.owner spot.place x level || (starts_badly spot.start x || ((spot.context.no_in && is_in x) || (is_async_of spot x || is_directive spot x)))
