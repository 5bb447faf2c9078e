-- Elements between two ends: strings, templates and regular expressions (ECMA-262, clauses 12.9.4
-- to 12.9.6). Each function is given the bytes from the element's start to the end of the text.
use Rattle.std.specs.Prelude.{ℕ, ◌+◌, ◌==◌, Bool, true, false, List, slice_index, not, Result, Ok, Err, if◌then◌else◌}
use Rattle.js_tokens.specs.declared.token.TokenKind.{TokenKind}
use Rattle.js_tokens.specs.declared.token.TokenKind.TheVariants as token
use Rattle.js_tokens.specs.declared.token.TemplatePart.{TemplatePart}
use Rattle.js_tokens.specs.declared.token.TemplatePart.TheVariants.{Whole, Head, Middle, Tail}
use Rattle.js_lexer.specs.declared.element.Element.{Element}
use Rattle.js_lexer.specs.declared.fault.LexFaultKind.{LexFaultKind}
use Rattle.js_lexer.specs.declared.fault.LexFaultKind.TheVariants.{OpenString, OpenTemplate, OpenRegex, BadEscape}
use Rattle.js_lexer.specs.declared.parts.Part.TheVariants.{OfName, OfString, OfTemplate, OfClass}
use Rattle.js_lexer.specs.Parts.{has_byte, regex_char_len, row_end, run}

abbrev pub element_of : TokenKind → ℕ → Element
element_of kind len = record { kind = kind; len = len }

-- up to the quote with which it begins
unfoldable pub string : List ℕ → Result Element LexFaultKind
string rest =
    let quote = slice_index rest 0 in
    let inside = run (OfString quote) 1 rest in
    if has_byte rest inside quote then Ok (element_of token.Quoted (inside + 1))
    else (if has_byte rest inside 0x5C then Err BadEscape
    else Err OpenString)

-- which part of a template it is that begins with a backquote or not, and ends with one or not
abbrev pub template_part : Bool → Bool → TemplatePart
template_part begins ends = if begins then (if ends then Whole else Head) else (if ends then Tail else Middle)

-- up to a backquote or `${`
unfoldable pub template : List ℕ → Result Element LexFaultKind
template rest =
    let begins = slice_index rest 0 == 0x60 in
    let inside = run OfTemplate 1 rest in
    if has_byte rest inside 0x60 then Ok (element_of (token.Template (template_part begins true)) (inside + 1))
    else (if has_byte rest (inside + 1) 0x7B then Ok (element_of (token.Template (template_part begins false)) (inside + 2))
    else Err OpenTemplate)

-- a class with its brackets, 0 where it is open
unfoldable pub class_len : List ℕ → ℕ
class_len rest =
    let inside = run OfClass 1 rest in
    if has_byte rest inside 0x5D then inside + 1 else 0

unfoldable pub regex_part_len : List ℕ → ℕ
regex_part_len rest =
    if slice_index rest 0 == 0x2F then 0
    else (if slice_index rest 0 == 0x5B then class_len rest
    else regex_char_len rest)

-- where the body ends
abbrev pub regex_body_end : List ℕ → ℕ
regex_body_end rest = row_end regex_part_len 1 0 rest

-- up to a `/`, and the flags behind it
unfoldable pub regex : List ℕ → Result Element LexFaultKind
regex rest =
    let body = regex_body_end rest in
    if not (has_byte rest body 0x2F) then Err OpenRegex
    else Ok (element_of token.Regex (run OfName (body + 1) rest))
