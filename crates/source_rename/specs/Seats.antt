-- Where a name that is a word of the grammar would be read as something else (ECMA-262, clauses 14.7.5 and 15.7).
use Rattle.std.specs.Prelude.{ℕ, Bool, true, false, ◌||◌, if◌then◌else◌, List, Option, Some, Result, Ok, Err, length, nat_le, slice_get}
use Rattle.js_tokens.specs.declared.punctuator.Punctuator.TheVariants.{OpenBracket, CloseParen, CloseBrace, Semicolon, Assign}
use Rattle.js_tokens.specs.declared.token.Goal.TheVariants.{Div}
use Rattle.js_tokens.specs.declared.token.Token.{Token}
use Rattle.js_tokens.specs.declared.token.TokenKind.{TokenKind}
use Rattle.js_tokens.specs.declared.token.TokenKind.TheVariants as token
use Rattle.js_tokens.specs.declared.word.Word.{Word}
use Rattle.js_tokens.specs.declared.word.Word.TheVariants as w
use Rattle.js_lexer.specs.declared.fault.LexFault.{LexFault}
use Rattle.js_tokens.specs.Tokens.{is_punctuator}
use Rattle.js_lexer.specs.Scan.{scan}
use Rattle.tree_core.specs.declared.scalars.Scalar.{Scalar}
use Rattle.tree_core.specs.declared.scalars.Scalar.TheVariants.{Truth}
use Rattle.tree_core.specs.declared.span.Span.{Span}
use Rattle.type_defs.specs.declared.kind.Kind.{Kind}
use Rattle.type_defs.specs.declared.kind.Kind.TheVariants.{ForOfStatement, PropertyDefinition}
use Rattle.source_rename.specs.declared.places.Seat.{Seat}
use Rattle.source_rename.specs.declared.places.Seat.TheVariants.{Free, Head, Accessor, Modifier}
use Rattle.source_rename.specs.declared.places.Spelling.{Spelling}
use Rattle.source_rename.specs.declared.places.Spelling.TheVariants.{Name, Grouped, Ended}

abbrev pub truth_at : Option Scalar → Bool
truth_at (Some (Truth truth)) = truth
truth_at _ = false

-- what a `for of` assigns to, in a rename to this word; behind `for await` every name may stand bare (ECMA-262, clause 14.7.5)
abbrev pub head_seat : Word → Bool → Seat
head_seat w.Async is_await = if is_await then Free else Head
head_seat _ _ = Free

-- a key that is not computed, of a field that is static or not
abbrev pub plain_key_seat : Word → Bool → Seat
plain_key_seat w.Get _ = Accessor
plain_key_seat w.Set _ = Accessor
plain_key_seat w.Static is_static = if is_static then Free else Modifier
plain_key_seat _ _ = Free

-- the key of a field, whose scalars are `computed` and `static`
abbrev pub key_seat : Word → List Scalar → Seat
key_seat word scalars = if truth_at (slice_get scalars 0) then Free else plain_key_seat word (truth_at (slice_get scalars 1))

-- the seat of a node in the first slot of a node of this kind and these scalars
abbrev pub first_seat : Word → Kind → List Scalar → Seat
first_seat word ForOfStatement scalars = head_seat word (truth_at (slice_get scalars 0))
first_seat word PropertyDefinition scalars = key_seat word scalars
first_seat word kind scalars = Free

abbrev pub kind_found : Result Token LexFault → TokenKind
kind_found (Ok token) = token.kind
kind_found (Err _) = token.End

-- the sort of the token behind the offset
abbrev pub kind_behind : List ℕ → ℕ → TokenKind
kind_behind s at = if nat_le at (length s) then kind_found (scan s at Div) else token.End

abbrev pub begins_key : TokenKind → Bool
begins_key (token.Name _) = true
begins_key token.Quoted = true
begins_key token.Number = true
begins_key token.BigInt = true
begins_key token.Private = true
begins_key (token.Punctuator mark) = is_punctuator (token.Punctuator mark) OpenBracket
begins_key _ = false

abbrev pub ends_key : TokenKind → Bool
ends_key kind = (is_punctuator kind Semicolon || is_punctuator kind CloseBrace) || is_punctuator kind Assign

-- how the new name is spelled at the stretch of an identifier in this seat
abbrev pub spelling_at : List ℕ → Span → Seat → Spelling
spelling_at s span Free = Name
spelling_at s span Head = if is_punctuator (kind_behind s span.end) CloseParen then Name else Grouped
spelling_at s span Accessor = if begins_key (kind_behind s span.end) then Ended else Name
spelling_at s span Modifier = if ends_key (kind_behind s span.end) then Name else Ended
