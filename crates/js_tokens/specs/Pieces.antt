-- What one character or escape spells (ECMA-262, clauses 12.9.4 and 12.9.6). Each function is given
-- the bytes from there to the end, and tells how many of them spell the piece.
use Rattle.std.specs.Prelude.{ℕ, ◌+◌, ◌-◌, ◌*◌, ◌^◌, ◌<◌, ◌==◌, ◌&&◌, ◌||◌, not, Bool, List, [], ◌∷◌, length, drop, slice_index, nat_lt, nat_le, Option, Some, None, IfSome, unwrap_or, option_and_then, if◌then◌else◌}
use Rattle.js_tokens.specs.Characters.{char_len, first_char}
use Rattle.js_tokens.specs.declared.piece.Piece.{Piece}

-- a piece takes some bytes, and its code point fits one or two code units
abbrev pub IsWhole : Piece → Type 0
IsWhole piece = (0 < piece.len) × IfSome piece.code (λ code. code < 2 ^ 21)

infixl 10 ◌>>=◌
abbrev pub ◌>>=◌ : {A B : Type 0} → Option A → (A → Option B) → Option B
o >>= f = option_and_then f o

-- this code point, in so many bytes
abbrev pub coded : ℕ → ℕ → Piece
coded code len = record { code = Some code; len = len }

-- a character as it stands
abbrev pub character : List ℕ → Piece
character bytes = coded (first_char bytes) (char_len (slice_index bytes 0))

-- CR LF or CR, read as LF
abbrev pub line_feed : List ℕ → Piece
line_feed bytes = coded 0x0A (if slice_index bytes 1 == 0x0A then 2 else 1)

abbrev pub is_between : ℕ → ℕ → ℕ → Bool
is_between low high byte = nat_le low byte && nat_le byte high

-- the value of a hex digit
abbrev pub hex_digit : ℕ → Option ℕ
hex_digit byte =
    if is_between 0x30 0x39 byte then Some (byte - 0x30)
    else (if is_between 0x61 0x66 byte then Some (byte - 0x57)
    else (if is_between 0x41 0x46 byte then Some (byte - 0x37)
    else None))

-- `\x` and two hex digits
unfoldable pub hex_escape : List ℕ → Option Piece
hex_escape bytes = do
  high ← hex_digit (slice_index bytes 2)
  low ← hex_digit (slice_index bytes 3)
  Some (coded (high * 16 + low) 4)

-- `\u` and four hex digits
unfoldable pub four_digits : List ℕ → Option Piece
four_digits bytes = do
  first ← hex_digit (slice_index bytes 2)
  second ← hex_digit (slice_index bytes 3)
  third ← hex_digit (slice_index bytes 4)
  fourth ← hex_digit (slice_index bytes 5)
  Some (coded (((first * 16 + second) * 16 + third) * 16 + fourth) 6)

-- from the offset on: hex digits up to `}`, at least one, after digits with this value
abbrev pub digits_to_brace : ℕ → ℕ → List ℕ → Option Piece
digits_to_brace value at [] = None
digits_to_brace value at (byte ∷ bytes) =
    if byte == 0x7D then (if at == 3 then None else Some (coded value (at + 1)))
    else (hex_digit byte >>= λ digit.
    if nat_lt 0x10_FFFF (value * 16 + digit) then None else digits_to_brace (value * 16 + digit) (at + 1) bytes)

-- `\u{`, hex digits of a code point, and `}`
unfoldable pub braced_digits : List ℕ → Option Piece
braced_digits bytes = digits_to_brace 0 3 (drop 3 bytes)

-- an escape with `\u`
unfoldable pub unicode_escape : List ℕ → Option Piece
unicode_escape bytes =
    if slice_index bytes 1 == 0x75 then (if slice_index bytes 2 == 0x7B then braced_digits bytes else four_digits bytes)
    else None

-- the bytes of a backslash and a line end, 0 where no line end follows it
unfoldable pub continuation_len : List ℕ → ℕ
continuation_len bytes =
    if slice_index bytes 1 == 0x0A then 2
    else (if slice_index bytes 1 == 0x0D then (if slice_index bytes 2 == 0x0A then 3 else 2)
    else (if slice_index bytes 1 == 0xE2 && slice_index bytes 2 == 0x80 && (slice_index bytes 3 == 0xA8 || slice_index bytes 3 == 0xA9) then 4
    else 0))

-- what the letter of an escape stands for
abbrev pub control : ℕ → Option ℕ
control byte =
    if byte == 0x62 then Some 0x08
    else (if byte == 0x74 then Some 0x09
    else (if byte == 0x6E then Some 0x0A
    else (if byte == 0x76 then Some 0x0B
    else (if byte == 0x66 then Some 0x0C
    else (if byte == 0x72 then Some 0x0D
    else None)))))

-- a backslash and one character, which stands for itself where no other meaning is given
unfoldable pub single_escape : List ℕ → Piece
single_escape bytes = coded (unwrap_or (control (slice_index bytes 1)) (first_char (drop 1 bytes))) (1 + char_len (slice_index bytes 1))

-- an escape without digits behind the backslash
unfoldable pub letter_escape : List ℕ → Option Piece
letter_escape bytes =
    if slice_index bytes 1 == 0x78 then hex_escape bytes
    else (if slice_index bytes 1 == 0x75 then unicode_escape bytes
    else (if nat_lt 0 (continuation_len bytes) then Some (record { code = None; len = continuation_len bytes })
    else Some (single_escape bytes)))

abbrev pub is_octal : ℕ → Bool
is_octal byte = is_between 0x30 0x37 byte

-- `\` and one to three octal digits, three only where the first is at most 3
unfoldable pub octal_escape : List ℕ → Option Piece
octal_escape bytes =
    let first = slice_index bytes 1 in
    let second = slice_index bytes 2 in
    let third = slice_index bytes 3 in
    if not (is_octal first) then None
    else (if not (is_octal second) then Some (coded (first - 0x30) 2)
    else (if nat_lt 0x33 first || not (is_octal third) then Some (coded ((first - 0x30) * 8 + (second - 0x30)) 3)
    else Some (coded (((first - 0x30) * 8 + (second - 0x30)) * 8 + (third - 0x30)) 4)))

-- `\0` with no digit behind it
unfoldable pub null_escape : List ℕ → Option Piece
null_escape bytes =
    if slice_index bytes 1 == 0x30 && not (is_between 0x30 0x39 (slice_index bytes 2)) then Some (coded 0 2) else None

-- an escape of a string, which may have octal digits
unfoldable pub string_escape : List ℕ → Option Piece
string_escape bytes =
    if nat_lt (length bytes) 2 then None
    else (if is_between 0x30 0x39 (slice_index bytes 1) then octal_escape bytes
    else letter_escape bytes)

-- an escape of a template, which may not
unfoldable pub template_escape : List ℕ → Option Piece
template_escape bytes =
    if nat_lt (length bytes) 2 then None
    else (if is_between 0x30 0x39 (slice_index bytes 1) then null_escape bytes
    else letter_escape bytes)
