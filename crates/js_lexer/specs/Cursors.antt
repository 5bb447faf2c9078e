-- A cursor over the tokens of a text, and the steps of which each rule of a reader is made.
use Rattle.std.specs.Prelude.{ℕ, ◌+◌, ◌-◌, ◌≤◌, ◌==◌, ◌&&◌, min, Bool, true, false, List, [], ◌∷◌, ◌++◌, length, drop, nat_lt, Option, Some, None, is_some, is_none, unwrap_or, Result, Ok, Err, All, if◌then◌else◌}
use Rattle.js_tokens.specs.Tokens.{is_punctuator, is_word as word_is}
use Rattle.js_tokens.specs.declared.punctuator.Punctuator.{Punctuator}
use Rattle.js_tokens.specs.declared.token.Goal.{Goal}
use Rattle.js_tokens.specs.declared.token.Goal.TheVariants.{Div}
use Rattle.js_tokens.specs.declared.token.Token.{Token}
use Rattle.js_tokens.specs.declared.token.TokenKind.{TokenKind}
use Rattle.js_tokens.specs.declared.token.TokenKind.TheVariants as token
use Rattle.js_tokens.specs.declared.word.Word.{Word}
use Rattle.tree_core.specs.declared.span.Span.{Span}
use Rattle.js_lexer.specs.declared.cursor.Ahead.{Ahead}
use Rattle.js_lexer.specs.declared.fault.LexFault.{LexFault}
use Rattle.js_lexer.specs.declared.fault.Refusal.{Refusal}
use Rattle.js_lexer.specs.declared.fault.Refusal.TheVariants as r
use Rattle.js_lexer.specs.declared.fault.SyntaxFault.{SyntaxFault}
use Rattle.js_lexer.specs.declared.fault.SyntaxKind.TheVariants.{Lex, Unexpected, Nesting}
use Rattle.js_lexer.specs.declared.scanning.Gap.{Gap}
use Rattle.js_lexer.specs.Blanks.{blank_len, comment_len}
use Rattle.js_lexer.specs.Scan.{gap_at, scan, token_at}

-- a text, the token that is read ahead, where the last one ended, what was refused, and the
-- stretches of the nodes and comments that were read
pub record Input : Type 0 where
  pub text : List ℕ
  pub token : Token
  pub last_end : ℕ
  pub refusal : Option Refusal
  pub spans : List Span
  pub comments : List Span

-- a stretch of a text of this length
abbrev pub SpanFits : ℕ → Span → Type 0
SpanFits len span = (span.start ≤ span.end) × (span.end ≤ len)

abbrev pub SpansFit : ℕ → List Span → Type 0
SpansFit len spans = All (SpanFits len) spans

-- the token that is read ahead lies behind the offset, in a text of this length
pub record FoundFrom (from len : ℕ) (found : Ahead) : Type 0 where
  pub behind : from ≤ found.token.start
  pub ordered : found.token.start ≤ found.token.end
  pub within : found.token.end ≤ len

abbrev pub end_at : ℕ → Bool → Token
end_at at broken = record { kind = token.End; start = at; end = at; broken_before = broken }

abbrev pub lex_fault : LexFault → SyntaxFault
lex_fault fault = record { at = fault.at; kind = Lex fault.kind }

-- a token, or `End` in the place of a broken element
abbrev pub ahead_of : Gap → Result Token LexFault → Ahead
ahead_of gap (Ok found) = record { token = found; refusal = None }
ahead_of gap (Err fault) = record { token = end_at fault.at gap.broken; refusal = Some (r.Syntax (lex_fault fault)) }

-- what stands behind the gap
unfoldable pub look_ahead : List ℕ → Gap → Goal → Ahead
look_ahead text gap goal = ahead_of gap (token_at text gap goal)

abbrev pub no_memory : ℕ → Ahead
no_memory at = record { token = end_at at false; refusal = Some r.NoMemory }

-- the comment with which the bytes from the offset on begin
unfoldable pub comment_at : ℕ → List ℕ → List Span
comment_at at rest = if comment_len rest == 0 then [] else record { start = at; end = at + comment_len rest } ∷ []

-- the comments among the blanks that begin `skip` bytes behind the offset
unfoldable pub comments_from : ℕ → ℕ → List ℕ → List Span
comments_from skip at [] = []
comments_from skip at (byte ∷ rest) =
    if nat_lt 0 skip then comments_from (skip - 1) (at + 1) rest
    else (if blank_len (byte ∷ rest) == 0 then []
    else comment_at at (byte ∷ rest) ++ comments_from (blank_len (byte ∷ rest) - 1) (at + 1) rest)

-- behind the offset, with the comments kept and the next token read ahead
unfoldable pub moved : ℕ → Input → Input
moved from i =
    let found = look_ahead i.text (gap_at i.text from) Div in record {
      text = i.text;
      token = found.token;
      last_end = from;
      refusal = found.refusal;
      spans = i.spans;
      comments = i.comments ++ comments_from 0 from (drop from i.text);
    }

-- before any token
abbrev pub bare : List ℕ → ℕ → Input
bare text from = record { text = text; token = end_at from false; last_end = from; refusal = None; spans = []; comments = [] }

abbrev pub begun : List ℕ → ℕ → Input
begun text from = moved from (bare text from)

abbrev pub is_end : TokenKind → Bool
is_end token.End = true
is_end _ = false

abbrev pub is_mark : TokenKind → Punctuator → Bool
is_mark = is_punctuator

abbrev pub is_word : TokenKind → Word → Bool
is_word = word_is

-- past the next token, unless it is the end
unfoldable pub taken : Input → Input
taken i = if is_end i.token.kind then i else moved i.token.end i

-- the text ends here, and nothing was refused
abbrev pub is_done : Input → Bool
is_done i = is_end i.token.kind && is_none i.refusal

-- at least as many as there are tokens left
abbrev pub turns : Input → ℕ
turns i = length i.text - i.last_end

abbrev pub token_behind : Input → ℕ → Goal → Result Token LexFault
token_behind i at goal = scan i.text at goal

abbrev pub with_ahead : Ahead → Input → Input
with_ahead found i = record { text = i.text; token = found.token; last_end = i.last_end; refusal = found.refusal; spans = i.spans; comments = i.comments }

-- the next token read in this goal
unfoldable pub rescanned : Goal → Input → Input
rescanned goal i =
    if is_some i.refusal then i
    else with_ahead (look_ahead i.text (record { end = i.token.start; broken = i.token.broken_before }) goal) i

-- the first refusal stays
abbrev pub refusal_of : SyntaxFault → Input → Refusal
refusal_of fault i = unwrap_or i.refusal (r.Syntax fault)

-- after a refusal, nothing but the end comes
unfoldable pub stopped : SyntaxFault → Input → Input
stopped fault i =
    if is_some i.refusal then i
    else with_ahead (record { token = end_at i.token.start i.token.broken_before; refusal = Some (r.Syntax fault) }) i

abbrev pub unexpected : ℕ → SyntaxFault
unexpected at = record { at = at; kind = Unexpected }

abbrev pub nesting : Input → SyntaxFault
nesting i = record { at = i.token.start; kind = Nesting }

abbrev pub refused : ℕ → Input → Input
refused at i = stopped (unexpected at) i

abbrev pub refusal : ℕ → Input → Refusal
refusal at i = refusal_of (unexpected at) i

-- one more node, up to where the last token ended
unfoldable pub numbered : ℕ → Input → Input
numbered start i =
    record {
      text = i.text;
      token = i.token;
      last_end = i.last_end;
      refusal = i.refusal;
      spans = i.spans ++ record { start = min start i.last_end; end = i.last_end } ∷ [];
      comments = i.comments;
    }
