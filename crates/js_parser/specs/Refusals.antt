-- Where a text is refused, and what stands there.
use Rattle.std.specs.Prelude.{ℕ, ◌≤◌, ◌≡◌, List, Err}
use Rattle.js_tokens.specs.declared.token.Goal.TheVariants.{RegExpOrTemplateTail}
use Rattle.js_lexer.specs.declared.fault.LexFault.{LexFault}
use Rattle.js_lexer.specs.declared.fault.Refusal.{Refusal}
use Rattle.js_lexer.specs.declared.fault.Refusal.TheVariants.{Syntax, NoMemory}
use Rattle.js_lexer.specs.declared.fault.SyntaxKind.{SyntaxKind}
use Rattle.js_lexer.specs.declared.fault.SyntaxKind.TheVariants.{Lex}
use Rattle.js_lexer.specs.Scan.{scan}

-- the refusal names a place of a text of the length, or is for expected of memory
abbrev pub RefusedWithin : ℕ → Refusal → Type 0
RefusedWithin len (Syntax fault) = fault.at ≤ len
RefusedWithin len NoMemory = Unit

-- a malformed token is what the lexer finds at the offset, in the goal that takes every input element: `/` begins a regular expression, and `}` goes on with a template (ECMA-262, clause 12)
abbrev pub MalformedAt : List ℕ → ℕ → SyntaxKind → Type 0
MalformedAt text at (Lex kind) = scan text at RegExpOrTemplateTail ≡ Err (record { at = at; kind = kind })
MalformedAt text at _ = Unit

-- a refusal for a malformed token is at one
abbrev pub RefusedMalformed : List ℕ → Refusal → Type 0
RefusedMalformed text (Syntax fault) = MalformedAt text fault.at fault.kind
RefusedMalformed text NoMemory = Unit
