-- The longest lexical element (ECMA-262, clause 12), once blanks and comments are passed. Each
-- function is given the bytes from the element's start to the end of the text.
use Rattle.std.specs.Prelude.{ℕ, ◌+◌, ◌==◌, ◌||◌, Bool, true, false, List, length, drop, take, slice_index, nat_lt, Result, Ok, Err, if◌then◌else◌}
use Rattle.std.specs.Option.{option_map_or}
use Rattle.js_tokens.specs.declared.token.Goal.{Goal}
use Rattle.js_tokens.specs.declared.token.Goal.TheVariants.{Div, RegExp, TemplateTail, RegExpOrTemplateTail}
use Rattle.js_tokens.specs.declared.token.TokenKind.TheVariants as token
use Rattle.js_tokens.specs.declared.punctuator.Punctuator.TheVariants.{CloseBrace, Slash, SlashAssign}
use Rattle.js_tokens.specs.Words.{word_of}
use Rattle.js_lexer.specs.declared.element.Element.{Element}
use Rattle.js_lexer.specs.declared.fault.LexFaultKind.{LexFaultKind}
use Rattle.js_lexer.specs.declared.fault.LexFaultKind.TheVariants.{OpenComment, BadEscape, BadChar}
use Rattle.js_lexer.specs.declared.parts.Part.TheVariants.{OfName}
use Rattle.js_lexer.specs.Marks.{mark, punctuator, with_equal}
use Rattle.js_lexer.specs.Numbers.{number}
use Rattle.js_lexer.specs.Parts.{has_byte, is_digit, name_start_len, run}
use Rattle.js_lexer.specs.Quoted.{element_of, regex, string, template}

-- `}` goes on with a template
abbrev pub continues_template : Goal → Bool
continues_template Div = false
continues_template RegExp = false
continues_template TemplateTail = true
continues_template RegExpOrTemplateTail = true

-- `/` begins a regular expression
abbrev pub begins_regex : Goal → Bool
begins_regex Div = false
begins_regex RegExp = true
begins_regex TemplateTail = false
begins_regex RegExpOrTemplateTail = true

-- the length of a name, 0 where none stands there
unfoldable pub name_len : List ℕ → ℕ
name_len rest = if name_start_len rest == 0 then 0 else run OfName (name_start_len rest) rest

-- one with an escape spells no word
abbrev pub name : List ℕ → ℕ → Element
name rest len = element_of (token.Name (word_of (take len rest))) len

unfoldable pub brace : List ℕ → Goal → Result Element LexFaultKind
brace rest goal = if continues_template goal then template rest else Ok (mark CloseBrace 1)

-- a comment that is closed is passed already
unfoldable pub slash : List ℕ → Goal → Result Element LexFaultKind
slash rest goal =
    if has_byte rest 1 0x2A then Err OpenComment
    else (if begins_regex goal then regex rest
    else Ok (with_equal rest Slash SlashAssign))

unfoldable pub private_name : List ℕ → Result Element LexFaultKind
private_name rest =
    if nat_lt 0 (name_len (drop 1 rest)) then Ok (element_of token.Private (1 + name_len (drop 1 rest)))
    else (if has_byte rest 1 0x5C then Err BadEscape
    else Err BadChar)

-- a digit, or a dot and a digit
unfoldable pub begins_number : List ℕ → Bool
begins_number rest = if slice_index rest 0 == 0x2E then is_digit 10 (slice_index rest 1) else is_digit 10 (slice_index rest 0)

unfoldable pub other : List ℕ → Result Element LexFaultKind
other rest = if begins_number rest then number rest else option_map_or Ok (punctuator rest) (Err BadChar)

-- what is no name
unfoldable pub symbol : List ℕ → Goal → Result Element LexFaultKind
symbol rest goal =
    let first = slice_index rest 0 in
    if first == 0x22 || first == 0x27 then string rest
    else (if first == 0x60 then template rest
    else (if first == 0x7D then brace rest goal
    else (if first == 0x2F then slash rest goal
    else (if first == 0x23 then private_name rest
    else (if first == 0x5C then Err BadEscape
    else other rest)))))

-- the longest element in the goal, or what is wrong with it
unfoldable pub longest : List ℕ → Goal → Result Element LexFaultKind
longest rest goal =
    if length rest == 0 then Ok (element_of token.End 0)
    else (if nat_lt 0 (name_len rest) then Ok (name rest (name_len rest))
    else symbol rest goal)
