-- Which kinds patterns have (ECMA-262, clauses 13.15.5 and 15.3; ESTree).
use Rattle.std.specs.Prelude.{Option, Some, None}
use Rattle.type_defs.specs.declared.kind.Kind.{Kind}
use Rattle.type_defs.specs.declared.kind.Kind.TheVariants as k

-- what a node of the kind becomes in a pattern
abbrev pub pattern_kind : Kind → Option Kind
pattern_kind k.Identifier = Some k.Identifier
pattern_kind k.MemberExpression = Some k.MemberExpression
pattern_kind k.ArrayExpression = Some k.ArrayPattern
pattern_kind k.ArrayPattern = Some k.ArrayPattern
pattern_kind k.ObjectExpression = Some k.ObjectPattern
pattern_kind k.ObjectPattern = Some k.ObjectPattern
pattern_kind k.AssignmentExpression = Some k.AssignmentPattern
pattern_kind k.AssignmentPattern = Some k.AssignmentPattern
pattern_kind k.SpreadElement = Some k.RestElement
pattern_kind k.RestElement = Some k.RestElement
pattern_kind k.Property = Some k.AssignmentProperty
pattern_kind k.AssignmentProperty = Some k.AssignmentProperty
pattern_kind kind = None
