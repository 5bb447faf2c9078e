-- What the places of a form take, by the kinds of nodes (ESTree; ECMA-262, clauses 13 to 16).
use Rattle.std.specs.Prelude.{Bool, true, false, not, ◌&&◌, ◌||◌, codes, List, Option, Some, slice_get}
use Rattle.tree_core.specs.declared.scalars.Scalar.{Scalar}
use Rattle.tree_core.specs.Syntax.{Syntax, node}
use Rattle.tree_core.specs.Tests.{is_text_at}
use Rattle.type_defs.specs.declared.kind.Kind.{Kind}
use Rattle.type_defs.specs.declared.kind.Kind.TheVariants as k
use Rattle.js_tokens.specs.declared.punctuator.Punctuator.TheVariants as m
use Rattle.js_tokens.specs.declared.word.Word.TheVariants as w
use Rattle.js_forms.specs.declared.category.Category.{Category}
use Rattle.js_forms.specs.declared.category.Category.TheVariants as c
use Rattle.js_forms.specs.declared.form.Form.{Form}
use Rattle.js_forms.specs.declared.form.Form.TheVariants as f
use Rattle.js_forms.specs.declared.operator.Operator.{Operator}
use Rattle.js_forms.specs.declared.operator.Operator.TheVariants as o
use Rattle.tree_forms.specs.Edges.{is_expression}
use Rattle.tree_forms.specs.Reading.{child}
use Rattle.tree_check.specs.Kinds.{is_statement, is_declaration, is_module_item, is_simple, is_pattern, is_binding, is_default, is_rest, is_link, is_block, is_case, is_catch, is_function_or_class, is_variables, is_declarator, is_import_specifier, is_export_specifier, is_spread, is_property, is_pattern_property, is_template, is_characters, is_class_body, is_class_item, is_function, is_identifier, is_private, is_super}

-- a statement, or what declares variables by `var`
abbrev pub is_body : Syntax → Bool
is_body (node k.VariableDeclaration found slots notes from) = is_text_at (codes "var") (slice_get found 0)
is_body (node kind found slots notes from) = is_statement kind

abbrev pub is_item : Kind → Bool
is_item kind = is_statement kind || is_declaration kind

abbrev pub takes_in : Operator → Bool
takes_in (o.Word w.In) = true
takes_in _ = false

abbrev pub takes_patterns : Operator → Bool
takes_patterns (o.Mark m.Assign) = true
takes_patterns _ = false

-- what the form begins with
abbrev pub takes_operand : Form → Kind → Bool
takes_operand f.Chain kind = is_link kind
takes_operand (f.Dot _) kind = is_expression kind || is_super kind
takes_operand (f.Index _) kind = is_expression kind || is_super kind
takes_operand (f.Call _) kind = is_expression kind || is_super kind
takes_operand (f.Binary operator) kind = is_expression kind || (is_private kind && takes_in operator)
takes_operand (f.Postfix _) kind = is_simple kind
takes_operand (f.Assignment operator) kind = is_simple kind || (is_pattern kind && takes_patterns operator)
takes_operand _ kind = is_expression kind

-- the sort of a literal that may be a key
abbrev pub is_key_sort : List Scalar → Bool
is_key_sort found = not (is_text_at (codes "boolean") (slice_get found 0)) && (not (is_text_at (codes "null") (slice_get found 0)) && not (is_text_at (codes "regexp") (slice_get found 0)))

-- a name, or a literal that may be a key
abbrev pub is_key : Syntax → Bool
is_key (node k.Identifier found slots notes from) = true
is_key (node k.Literal found slots notes from) = is_key_sort found
is_key _ = false

abbrev pub is_private_key : Syntax → Bool
is_private_key (node k.PrivateIdentifier found slots notes from) = not (is_text_at (codes "constructor") (slice_get found 0))
is_private_key _ = false

abbrev pub is_string : Syntax → Bool
is_string (node k.Literal found slots notes from) = is_text_at (codes "string") (slice_get found 0)
is_string _ = false

abbrev pub holds_super : Option Syntax → Bool
holds_super (Some (node k.Super found slots notes from)) = true
holds_super _ = false

-- the name of a member: a private one only where the object is not `super`
abbrev pub is_member_name : Syntax → Kind → Bool
is_member_name owner k.Identifier = true
is_member_name owner k.PrivateIdentifier = not (holds_super (child 0 owner))
is_member_name owner _ = false

-- the node may be assigned to
abbrev pub is_target : Kind → Bool
is_target kind = is_simple kind || is_pattern kind

-- what a place for a statement takes, or for a part of a statement, an import or an export
abbrev pub takes_statement : Category → Kind → Syntax → Bool
takes_statement c.Item kind x = is_item kind
takes_statement c.ModuleItem kind x = is_item kind || is_module_item kind
takes_statement c.Statement kind x = is_body x
takes_statement c.Block kind x = is_block kind
takes_statement c.FunctionBody kind x = is_block kind
takes_statement c.Case kind x = is_case kind
takes_statement c.Catch kind x = is_catch kind
takes_statement c.Declaration kind x = is_declaration kind
takes_statement c.DefaultDeclaration kind x = is_function_or_class kind
takes_statement c.Declarator kind x = is_declarator kind
takes_statement c.LoneDeclarator kind x = is_declarator kind
takes_statement c.ImportDefault kind x = is_import_specifier kind
takes_statement c.ImportNamespace kind x = is_import_specifier kind
takes_statement c.ImportSpecifier kind x = is_import_specifier kind
takes_statement c.Imports kind x = is_import_specifier kind
takes_statement c.ExportSpecifier kind x = is_export_specifier kind
takes_statement c.OwnExport kind x = is_export_specifier kind
takes_statement c.Source kind x = is_string x
takes_statement _ kind x = false

-- what a place for an expression takes, or for a part of one
abbrev pub takes_expression : Category → Kind → Bool
takes_expression c.Expression kind = is_expression kind
takes_expression c.Cover kind = is_expression kind
takes_expression c.Callee kind = is_expression kind
takes_expression c.Argument kind = is_expression kind || is_spread kind
takes_expression c.Element kind = is_expression kind || is_spread kind
takes_expression c.ObjectItem kind = is_property kind || is_spread kind
takes_expression c.Template kind = is_template kind
takes_expression c.Characters kind = is_characters kind
takes_expression c.ClassBody kind = is_class_body kind
takes_expression c.ClassItem kind = is_class_item kind
takes_expression (c.Method _) kind = is_function kind
takes_expression c.Getter kind = is_function kind
takes_expression c.Setter kind = is_function kind
takes_expression c.ArrowBody kind = is_expression kind || is_block kind
takes_expression c.ForInit kind = is_expression kind || is_variables kind
takes_expression _ kind = false

-- what a place for a pattern takes, or for a part of one
abbrev pub takes_pattern : Category → Kind → Bool
takes_pattern c.Target kind = is_simple kind
takes_pattern c.Binding kind = is_binding kind
takes_pattern c.BindingValue kind = is_binding kind || is_default kind
takes_pattern c.BindingElement kind = is_binding kind || (is_default kind || is_rest kind)
takes_pattern c.Assigned kind = is_target kind
takes_pattern c.AssignedValue kind = is_target kind || is_default kind
takes_pattern c.AssignedElement kind = is_target kind || (is_default kind || is_rest kind)
takes_pattern c.BindingProperty kind = is_pattern_property kind || is_rest kind
takes_pattern c.AssignedProperty kind = is_pattern_property kind || is_rest kind
takes_pattern c.ForLeft kind = is_target kind || is_variables kind
takes_pattern _ kind = false

-- what a place for a name takes; that of a shorthand is left to a rule of its own
abbrev pub takes_name : Category → Syntax → Kind → Syntax → Bool
takes_name c.Name owner kind x = is_identifier kind
takes_name c.AnyName owner kind x = is_identifier kind
takes_name c.SuperMember owner kind x = is_identifier kind
takes_name c.Member owner kind x = is_member_name owner kind
takes_name c.ObjectKey owner kind x = is_key x
takes_name c.ClassKey owner kind x = is_key x || is_private_key x
takes_name c.ShortValue owner kind x = true
takes_name _ owner kind x = false

abbrev pub takes_other : Category → Syntax → Kind → Syntax → Bool
takes_other category owner kind x = takes_statement category kind x || (takes_expression category kind || (takes_pattern category kind || takes_name category owner kind x))

-- a place of the category takes the child, in a slot of this owner with this form
abbrev pub takes : Category → Form → Syntax → Kind → Syntax → Bool
takes c.Operand form owner kind x = takes_operand form kind
takes category _ owner kind x = takes_other category owner kind x
