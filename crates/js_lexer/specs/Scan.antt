-- The next lexical element of a text (ECMA-262, clause 12). A text is the list of its bytes.
use Rattle.std.specs.Prelude.{ℕ, ◌+◌, ◌≤◌, Bool, List, drop, take, Result, Ok, Err}
use Rattle.js_tokens.specs.declared.token.Goal.{Goal}
use Rattle.js_tokens.specs.declared.token.Token.{Token}
use Rattle.js_lexer.specs.declared.element.Element.{Element}
use Rattle.js_lexer.specs.declared.fault.LexFault.{LexFault}
use Rattle.js_lexer.specs.declared.fault.LexFaultKind.{LexFaultKind}
use Rattle.js_lexer.specs.declared.scanning.Gap.{Gap}
use Rattle.js_lexer.specs.Blanks.{gap_len, has_line_end}
use Rattle.js_lexer.specs.Elements.{longest}

-- the blanks and comments from the offset on
abbrev pub gap_at : List ℕ → ℕ → Gap
gap_at text at =
    let rest = drop at text in
    let len = gap_len rest in
    record { end = at + len; broken = has_line_end (take len rest) }

abbrev pub token : ℕ → Element → Bool → Token
token start found broken = record { kind = found.kind; start = start; end = start + found.len; broken_before = broken }

-- the element as a token behind the gap, or the fault with its place
abbrev pub placed : Gap → Result Element LexFaultKind → Result Token LexFault
placed gap (Ok found) = Ok (token gap.end found gap.broken)
placed gap (Err kind) = Err (record { at = gap.end; kind = kind })

unfoldable pub token_at : List ℕ → Gap → Goal → Result Token LexFault
token_at text gap goal = placed gap (longest (drop gap.end text) goal)

-- the first token at or behind the offset, in the goal
unfoldable pub scan : List ℕ → ℕ → Goal → Result Token LexFault
scan text at goal = token_at text (gap_at text at) goal

-- the token that begins where this one does, in the goal
abbrev pub rescan : List ℕ → Token → Goal → Result Token LexFault
rescan text token goal = token_at text (record { end = token.start; broken = token.broken_before }) goal

-- the token lies behind the offset, in a text of this length
pub record LiesIn (from len : ℕ) (token : Token) : Type 0 where
  pub behind : from ≤ token.start
  pub ordered : token.start ≤ token.end
  pub within : token.end ≤ len
