-- What longer elements are made of, and where a row of it ends. Each function is given the bytes
-- from there to the end of the text. A length of 0 says that no such part stands there.
use Rattle.std.specs.Prelude.{ℕ, ◌+◌, ◌-◌, ◌==◌, ◌&&◌, ◌||◌, Bool, false, List, [], ◌∷◌, length, drop, slice_index, nat_lt, Option, Some, if◌then◌else◌}
use Rattle.std.specs.Option.{option_map_or}
use Rattle.js_tokens.specs.Characters.{starts_name, continues_name}
use Rattle.js_tokens.specs.Pieces.{character, hex_digit, string_escape, unicode_escape}
use Rattle.js_tokens.specs.declared.piece.Piece.{Piece}
use Rattle.js_lexer.specs.declared.parts.Part.{Part}
use Rattle.js_lexer.specs.declared.parts.Part.TheVariants.{OfName, Digit, BareDigit, OfString, OfTemplate, OfClass, OfLineComment, OfBlockComment}

-- the byte stands at the offset
abbrev pub has_byte : List ℕ → ℕ → ℕ → Bool
has_byte rest at byte = nat_lt at (length rest) && slice_index rest at == byte

-- a line end: LF, CR, U+2028 or U+2029
unfoldable pub breaks_line : List ℕ → Bool
breaks_line rest =
    slice_index rest 0 == 0x0A || slice_index rest 0 == 0x0D
    || (slice_index rest 0 == 0xE2 && slice_index rest 1 == 0x80 && (slice_index rest 2 == 0xA8 || slice_index rest 2 == 0xA9))

-- a digit of the radix
unfoldable pub is_digit : ℕ → ℕ → Bool
is_digit radix byte = option_map_or (λ digit. nat_lt digit radix) (hex_digit byte) false

-- a character of a name, or an escape of one
abbrev pub name_piece : List ℕ → Option Piece
name_piece rest = if slice_index rest 0 == 0x5C then unicode_escape rest else Some (character rest)

-- the length of a piece whose code point passes the test
abbrev pub len_if : (ℕ → Bool) → Piece → ℕ
len_if test piece = if option_map_or test piece.code false then piece.len else 0

unfoldable pub name_start_len : List ℕ → ℕ
name_start_len rest = option_map_or (len_if starts_name) (name_piece rest) 0

unfoldable pub name_part_len : List ℕ → ℕ
name_part_len rest = option_map_or (len_if continues_name) (name_piece rest) 0

-- a digit, or `_` and a digit
unfoldable pub digit_len : ℕ → List ℕ → ℕ
digit_len radix rest =
    if is_digit radix (slice_index rest 0) then 1
    else (if slice_index rest 0 == 0x5F && is_digit radix (slice_index rest 1) then 2 else 0)

abbrev pub bare_digit_len : ℕ → List ℕ → ℕ
bare_digit_len radix rest = if is_digit radix (slice_index rest 0) then 1 else 0

abbrev pub escape_len : Option Piece → ℕ
escape_len escape = option_map_or (λ piece. piece.len) escape 0

-- a byte of a string other than its quote, LF and CR, or an escape
unfoldable pub string_part_len : ℕ → List ℕ → ℕ
string_part_len quote rest =
    let byte = slice_index rest 0 in
    if byte == quote || byte == 0x0A || byte == 0x0D then 0
    else (if byte == 0x5C then escape_len (string_escape rest) else 1)

-- a byte of a template, before which neither a backquote nor `${` stands, or a backslash and a byte
unfoldable pub template_part_len : List ℕ → ℕ
template_part_len rest =
    if slice_index rest 0 == 0x60 || (slice_index rest 0 == 0x24 && slice_index rest 1 == 0x7B) then 0
    else (if slice_index rest 0 == 0x5C then 2 else 1)

-- a byte of a regular expression's line, or a backslash and a byte
unfoldable pub regex_char_len : List ℕ → ℕ
regex_char_len rest =
    if breaks_line rest then 0
    else (if slice_index rest 0 == 0x5C then (if breaks_line (drop 1 rest) then 0 else 2) else 1)

unfoldable pub class_part_len : List ℕ → ℕ
class_part_len rest = if slice_index rest 0 == 0x5D then 0 else regex_char_len rest

abbrev pub line_comment_part_len : List ℕ → ℕ
line_comment_part_len rest = if breaks_line rest then 0 else 1

abbrev pub block_comment_part_len : List ℕ → ℕ
block_comment_part_len rest = if slice_index rest 0 == 0x2A && slice_index rest 1 == 0x2F then 0 else 1

-- the length of the part with which the bytes begin
unfoldable pub part_len : Part → List ℕ → ℕ
part_len OfName rest = name_part_len rest
part_len (Digit radix) rest = digit_len radix rest
part_len (BareDigit radix) rest = bare_digit_len radix rest
part_len (OfString quote) rest = string_part_len quote rest
part_len OfTemplate rest = template_part_len rest
part_len OfClass rest = class_part_len rest
part_len OfLineComment rest = line_comment_part_len rest
part_len OfBlockComment rest = block_comment_part_len rest

-- Where a row of parts ends that begins `skip` bytes behind the offset. The function tells the
-- length of the part with which bytes begin.
unfoldable pub row_end : (List ℕ → ℕ) → ℕ → ℕ → List ℕ → ℕ
row_end len skip at [] = at
row_end len skip at (byte ∷ rest) =
    if nat_lt 0 skip then row_end len (skip - 1) (at + 1) rest
    else (if len (byte ∷ rest) == 0 then at
    else row_end len (len (byte ∷ rest) - 1) (at + 1) rest)

-- where the row of parts ends that begins at the offset
abbrev pub run : Part → ℕ → List ℕ → ℕ
run part from rest = row_end (part_len part) from 0 rest
