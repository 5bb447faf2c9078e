-- The table of forms. Kinds, scalars and slots are ESTree's; levels are those of ECMA-262, clause 13.
use Rattle.std.specs.Prelude.{ℕ, Bool, true, false, List, [], ◌∷◌, Option, Some, None}
use denote.Enum.Bare.{sameb}
use Rattle.tree_core.specs.declared.scalars.Scalar.{Scalar}
use Rattle.tree_core.specs.declared.scalars.Scalar.TheVariants as scalar
use Rattle.first_grammar.specs.contracts.table.Word.{the_type}
use Rattle.first_grammar.specs.declared.table.Kind.{Kind}
use Rattle.first_grammar.specs.declared.table.Kind.TheVariants as k
use Rattle.first_grammar.specs.declared.table.Word.{Word}
use Rattle.first_grammar.specs.declared.table.Word.TheVariants as w
use Rattle.first_grammar.specs.declared.table.Category.{Category}
use Rattle.first_grammar.specs.declared.table.Category.TheVariants as c
use Rattle.first_grammar.specs.declared.table.Part.{Part}
use Rattle.first_grammar.specs.declared.table.Part.TheVariants as p
use Rattle.type_defs.specs.declared.kind.Kind.{Kind as NodeKind}
use Rattle.type_defs.specs.declared.kind.Kind.TheVariants as node

-- whether two tokens are of one sort
unfoldable pub same_word : Word → Word → Bool
same_word = sameb the_type

-- the kind of ESTree
abbrev pub node_kind : Kind → NodeKind
node_kind k.Identifier = node.Identifier
node_kind k.PropertyName = node.Identifier
node_kind k.Member = node.MemberExpression
node_kind k.Call = node.CallExpression
node_kind k.Assignment = node.AssignmentExpression
node_kind k.Program = node.Program
node_kind k.ExpressionStatement = node.ExpressionStatement

-- the scalars that the form does not spell by a name
abbrev pub fixed : Kind → List Scalar
fixed k.Member = scalar.Truth false ∷ scalar.Truth false ∷ []
fixed k.Call = scalar.Truth false ∷ []
fixed k.Assignment = scalar.Text (61 ∷ []) ∷ []
fixed k.Program = scalar.Null ∷ []
fixed _ = []

abbrev pub level : Kind → ℕ
level k.Identifier = 19
level k.PropertyName = 19
level k.Member = 17
level k.Call = 17
level _ = 1

abbrev pub is_expression : Kind → Bool
is_expression k.Identifier = true
is_expression k.Member = true
is_expression k.Call = true
is_expression k.Assignment = true
is_expression _ = false

abbrev pub is_target : Kind → Bool
is_target k.Identifier = true
is_target k.Member = true
is_target _ = false

abbrev pub is_property : Kind → Bool
is_property k.PropertyName = true
is_property _ = false

abbrev pub is_statement : Kind → Bool
is_statement k.ExpressionStatement = true
is_statement _ = false

abbrev pub is_whole : Kind → Bool
is_whole k.Program = true
is_whole _ = false

abbrev pub belongs : Kind → Category → Bool
belongs kind c.Program = is_whole kind
belongs kind c.Statement = is_statement kind
belongs kind c.Expression = is_expression kind
belongs kind c.Target = is_target kind
belongs kind c.Property = is_property kind

abbrev pub left : Kind → Category × ℕ
left k.Assignment = (c.Target, 17)
left _ = (c.Expression, 17)

-- the token after the first child, in a form that begins with a child
abbrev pub infix_word : Kind → Option Word
infix_word k.Member = Some w.Dot
infix_word k.Call = Some w.OpenParen
infix_word k.Assignment = Some w.Assign
infix_word _ = None

abbrev pub tail : Kind → List Part
tail k.Identifier = p.Name ∷ []
tail k.PropertyName = p.AnyName ∷ []
tail k.Member = p.Child c.Property 1 ∷ []
tail k.Call = p.List c.Expression 1 w.CloseParen ∷ p.Token w.CloseParen ∷ []
tail k.Assignment = p.Child c.Expression 1 ∷ []
tail k.Program = p.Body c.Statement w.End ∷ p.Token w.End ∷ []
tail k.ExpressionStatement = p.Child c.Expression 1 ∷ p.Token w.Semicolon ∷ []

abbrev pub led : Category × ℕ → Option Word → List Part → List Part
led place None rest = rest
led place (Some word) rest = p.Child place.0 place.1 ∷ p.Token word ∷ rest

-- how the kind is spelled
abbrev pub form : Kind → List Part
form kind = led (left kind) (infix_word kind) (tail kind)

abbrev pub led_by : Word → Option Kind
led_by w.OpenParen = Some k.Call
led_by w.Dot = Some k.Member
led_by w.Assign = Some k.Assignment
led_by _ = None

abbrev pub begins_statement : Word → Option Kind
begins_statement w.Name = Some k.ExpressionStatement
begins_statement _ = None

abbrev pub begins_property : Word → Option Kind
begins_property w.Name = Some k.PropertyName
begins_property w.Reserved = Some k.PropertyName
begins_property _ = None

abbrev pub begins_expression : Word → Option Kind
begins_expression w.Name = Some k.Identifier
begins_expression _ = None

abbrev pub begun_by : Category → Word → Option Kind
begun_by c.Program word = Some k.Program
begun_by c.Statement word = begins_statement word
begun_by c.Property word = begins_property word
begun_by _ word = begins_expression word
