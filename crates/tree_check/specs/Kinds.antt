-- Kinds of nodes that places of several categories take (ESTree).
use Rattle.std.specs.Prelude.{Bool, true, false}
use Rattle.type_defs.specs.declared.kind.Kind.{Kind}
use Rattle.type_defs.specs.declared.kind.Kind.TheVariants as k

-- a node of the kind may be the body of a statement, declarations left aside
abbrev pub is_statement : Kind → Bool
is_statement k.ExpressionStatement = true
is_statement k.BlockStatement = true
is_statement k.EmptyStatement = true
is_statement k.DebuggerStatement = true
is_statement k.WithStatement = true
is_statement k.ReturnStatement = true
is_statement k.LabeledStatement = true
is_statement k.BreakStatement = true
is_statement k.ContinueStatement = true
is_statement k.IfStatement = true
is_statement k.SwitchStatement = true
is_statement k.ThrowStatement = true
is_statement k.TryStatement = true
is_statement k.WhileStatement = true
is_statement k.DoWhileStatement = true
is_statement k.ForStatement = true
is_statement k.ForInStatement = true
is_statement k.ForOfStatement = true
is_statement _ = false

-- an export may declare such a node
abbrev pub is_declaration : Kind → Bool
is_declaration k.VariableDeclaration = true
is_declaration k.FunctionDeclaration = true
is_declaration k.ClassDeclaration = true
is_declaration _ = false

-- an import or an export
abbrev pub is_module_item : Kind → Bool
is_module_item k.ImportDeclaration = true
is_module_item k.ExportNamedDeclaration = true
is_module_item k.ExportDefaultDeclaration = true
is_module_item k.ExportAllDeclaration = true
is_module_item _ = false

-- the node may be assigned to and is no pattern
abbrev pub is_simple : Kind → Bool
is_simple k.Identifier = true
is_simple k.MemberExpression = true
is_simple _ = false

-- a pattern in brackets or braces
abbrev pub is_pattern : Kind → Bool
is_pattern k.ArrayPattern = true
is_pattern k.ObjectPattern = true
is_pattern _ = false

-- a declaration may bind such a node
abbrev pub is_binding : Kind → Bool
is_binding k.Identifier = true
is_binding k.ArrayPattern = true
is_binding k.ObjectPattern = true
is_binding _ = false

-- a name or a pattern with a default
abbrev pub is_default : Kind → Bool
is_default k.AssignmentPattern = true
is_default _ = false

-- what is left of a list
abbrev pub is_rest : Kind → Bool
is_rest k.RestElement = true
is_rest _ = false

-- a link of a chain, optional or not
abbrev pub is_link : Kind → Bool
is_link k.MemberExpression = true
is_link k.CallExpression = true
is_link _ = false

abbrev pub is_block : Kind → Bool
is_block k.BlockStatement = true
is_block _ = false

abbrev pub is_case : Kind → Bool
is_case k.SwitchCase = true
is_case _ = false

abbrev pub is_catch : Kind → Bool
is_catch k.CatchClause = true
is_catch _ = false

-- a declaration of a function or of a class
abbrev pub is_function_or_class : Kind → Bool
is_function_or_class k.FunctionDeclaration = true
is_function_or_class k.ClassDeclaration = true
is_function_or_class _ = false

abbrev pub is_variables : Kind → Bool
is_variables k.VariableDeclaration = true
is_variables _ = false

abbrev pub is_declarator : Kind → Bool
is_declarator k.VariableDeclarator = true
is_declarator _ = false

-- a specifier of an import, of any of the three kinds
abbrev pub is_import_specifier : Kind → Bool
is_import_specifier k.ImportSpecifier = true
is_import_specifier k.ImportDefaultSpecifier = true
is_import_specifier k.ImportNamespaceSpecifier = true
is_import_specifier _ = false

abbrev pub is_export_specifier : Kind → Bool
is_export_specifier k.ExportSpecifier = true
is_export_specifier _ = false

abbrev pub is_spread : Kind → Bool
is_spread k.SpreadElement = true
is_spread _ = false

abbrev pub is_property : Kind → Bool
is_property k.Property = true
is_property _ = false

abbrev pub is_pattern_property : Kind → Bool
is_pattern_property k.AssignmentProperty = true
is_pattern_property _ = false

abbrev pub is_template : Kind → Bool
is_template k.TemplateLiteral = true
is_template _ = false

-- the characters of a template between its expressions
abbrev pub is_characters : Kind → Bool
is_characters k.TemplateElement = true
is_characters _ = false

abbrev pub is_class_body : Kind → Bool
is_class_body k.ClassBody = true
is_class_body _ = false

abbrev pub is_class_item : Kind → Bool
is_class_item k.MethodDefinition = true
is_class_item k.PropertyDefinition = true
is_class_item k.StaticBlock = true
is_class_item _ = false

-- a function expression, as methods have as values
abbrev pub is_function : Kind → Bool
is_function k.FunctionExpression = true
is_function _ = false

abbrev pub is_identifier : Kind → Bool
is_identifier k.Identifier = true
is_identifier _ = false

-- a private name
abbrev pub is_private : Kind → Bool
is_private k.PrivateIdentifier = true
is_private _ = false

abbrev pub is_super : Kind → Bool
is_super k.Super = true
is_super _ = false

abbrev pub is_directive : Kind → Bool
is_directive k.Directive = true
is_directive _ = false
