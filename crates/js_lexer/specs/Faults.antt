-- The numbers of faults.
use Rattle.std.specs.Prelude.{ℕ}
use Rattle.js_lexer.specs.declared.fault.LexFaultKind.{LexFaultKind}
use Rattle.js_lexer.specs.declared.fault.LexFaultKind.TheVariants.{OpenString, OpenTemplate, OpenComment, OpenRegex, BadEscape, BadNumber, BadChar}
use Rattle.js_lexer.specs.declared.fault.SyntaxKind.{SyntaxKind}
use Rattle.js_lexer.specs.declared.fault.SyntaxKind.TheVariants.{Lex, Unexpected, Nesting}

abbrev pub lex_number : LexFaultKind → ℕ
lex_number OpenString = 1
lex_number OpenTemplate = 2
lex_number OpenComment = 3
lex_number OpenRegex = 4
lex_number BadEscape = 5
lex_number BadNumber = 6
lex_number BadChar = 7

abbrev pub syntax_number : SyntaxKind → ℕ
syntax_number (Lex kind) = 1
syntax_number Unexpected = 2
syntax_number Nesting = 4
