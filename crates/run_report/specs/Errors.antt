-- What is said of a file, a folder or a script that has no answer. A text is a list of bytes.
use Rattle.std.specs.Prelude.{ℕ, List, [], ◌∷◌, ◌++◌, codes}
use Rattle.std.specs.Fmt.{decimal}
use Rattle.std.specs.List.{flat_map}
use Rattle.js_lexer.specs.declared.fault.LexFaultKind.{LexFaultKind}
use Rattle.js_lexer.specs.declared.fault.LexFaultKind.TheVariants as lex
use Rattle.js_lexer.specs.declared.fault.SyntaxKind.{SyntaxKind}
use Rattle.js_lexer.specs.declared.fault.SyntaxKind.TheVariants as syntax
use Rattle.script_check.specs.Names.{form_name}
use Rattle.script_values.specs.Faults.{fault_name}
use Rattle.tree_check.specs.Rules.{rule_name}
use Rattle.tree_check.specs.declared.rule.Rule.{Rule}
use Rattle.run_report.specs.declared.answer.RowError.{RowError}
use Rattle.run_report.specs.declared.answer.RowError.TheVariants.{Missing, ReadFault, ListFault, WriteFault, Unnamed, FolderDeep, TooLong, NotUtf8, Syntax, Script, Spent, BadNode, NotReadBack, Form}

unfoldable pub lex_name : LexFaultKind → List ℕ
lex_name lex.OpenString = codes "OpenString"
lex_name lex.OpenTemplate = codes "OpenTemplate"
lex_name lex.OpenComment = codes "OpenComment"
lex_name lex.OpenRegex = codes "OpenRegex"
lex_name lex.BadEscape = codes "BadEscape"
lex_name lex.BadNumber = codes "BadNumber"
lex_name lex.BadChar = codes "BadChar"

unfoldable pub syntax_name : SyntaxKind → List ℕ
syntax_name (syntax.Lex kind) = lex_name kind
syntax_name syntax.Unexpected = codes "Unexpected"
syntax_name syntax.Nesting = codes "Nesting"

-- one step of an address
unfoldable pub step_text : ℕ → List ℕ
step_text step = codes "/" ++ decimal step

-- an address: a stroke before each step, and one alone for the first node
unfoldable pub address_text : List ℕ → List ℕ
address_text [] = codes "/"
address_text (step ∷ steps) = flat_map step_text (step ∷ steps)

-- a rule that the node at the address breaks
unfoldable pub broken : List ℕ → Rule → List ℕ
broken address rule = codes "bad node " ++ address_text address ++ codes " " ++ rule_name rule

-- something of this name at an offset
unfoldable pub placed : List ℕ → List ℕ → ℕ → List ℕ
placed what name at = what ++ name ++ codes " at " ++ decimal at

unfoldable pub error_text : RowError → List ℕ
error_text Missing = codes "missing"
error_text ReadFault = codes "read fault"
error_text ListFault = codes "list fault"
error_text WriteFault = codes "write fault"
error_text (Unnamed count) = codes "unnamed entries " ++ decimal count
error_text FolderDeep = codes "folder too deep"
error_text TooLong = codes "longer than 2097152 bytes"
error_text (NotUtf8 at) = placed (codes "not ") (codes "UTF-8") at
error_text (Syntax at kind) = placed (codes "syntax ") (syntax_name kind) at
error_text (Script at kind) = placed (codes "script ") (fault_name kind) at
error_text Spent = codes "fuel spent"
error_text (BadNode address rule) = broken address rule
error_text NotReadBack = codes "text does not read back"
error_text (Form at kind) = placed (codes "form ") (form_name kind) at
