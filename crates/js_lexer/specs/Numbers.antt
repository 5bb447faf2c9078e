-- Number literals (ECMA-262, clause 12.9.3). Each function is given the bytes from the number's start
-- to the end of the text.
use Rattle.std.specs.Prelude.{ℕ, ◌+◌, ◌==◌, ◌&&◌, ◌||◌, not, List, drop, slice_index, nat_lt, Result, Ok, Err, if◌then◌else◌}
use Rattle.js_tokens.specs.declared.token.TokenKind.TheVariants.{Number, BigInt}
use Rattle.js_lexer.specs.declared.element.Element.{Element}
use Rattle.js_lexer.specs.declared.fault.LexFaultKind.{LexFaultKind}
use Rattle.js_lexer.specs.declared.fault.LexFaultKind.TheVariants.{BadNumber}
use Rattle.js_lexer.specs.declared.parts.Part.TheVariants.{Digit, BareDigit}
use Rattle.js_lexer.specs.Parts.{has_byte, is_digit, name_start_len, run}

-- the radix that the letter behind a leading 0 tells, 0 where it tells none
abbrev pub prefix_radix : ℕ → ℕ
prefix_radix letter =
    if letter == 0x78 || letter == 0x58 then 16
    else (if letter == 0x6F || letter == 0x4F then 8
    else (if letter == 0x62 || letter == 0x42 then 2
    else 0))

abbrev pub number_of : ℕ → Element
number_of len = record { kind = Number; len = len }

-- the whole number whose digits end there, one of any size where an `n` follows
abbrev pub whole_number : List ℕ → ℕ → Element
whole_number rest len = if has_byte rest len 0x6E then record { kind = BigInt; len = len + 1 } else number_of len

-- a dot, and digits or none
unfoldable pub fraction_end : List ℕ → ℕ → ℕ
fraction_end rest at =
    if not (has_byte rest at 0x2E) then at
    else (if is_digit 10 (slice_index rest (at + 1)) then run (Digit 10) (at + 1) rest
    else at + 1)

abbrev pub sign_end : List ℕ → ℕ → ℕ
sign_end rest at = if has_byte rest at 0x2B || has_byte rest at 0x2D then at + 1 else at

-- `e`, a sign or none, and digits
unfoldable pub exponent_end : List ℕ → ℕ → ℕ
exponent_end rest at =
    let digits = sign_end rest (at + 1) in
    if not (has_byte rest at 0x65) && not (has_byte rest at 0x45) then at
    else (if is_digit 10 (slice_index rest digits) then run (Digit 10) digits rest
    else at)

abbrev pub decimal_end : List ℕ → ℕ → ℕ
decimal_end rest whole = exponent_end rest (fraction_end rest whole)

-- a 0 and more digits: octal if all of them are, and then without a fraction
unfoldable pub legacy_number : List ℕ → Element
legacy_number rest =
    let whole = run (BareDigit 10) 0 rest in
    if run (BareDigit 8) 0 rest == whole then number_of whole else number_of (decimal_end rest whole)

-- where the digits end of a number without more than one leading 0
unfoldable pub whole_len : List ℕ → ℕ
whole_len rest = if has_byte rest 0 0x30 then 1 else run (Digit 10) 0 rest

-- digits without a leading 0, the 0 alone, or none before a fraction
unfoldable pub decimal_number : List ℕ → Element
decimal_number rest =
    let whole = whole_len rest in
    if has_byte rest whole 0x6E then whole_number rest whole else number_of (decimal_end rest whole)

-- the longest number, whatever follows
unfoldable pub numeral : List ℕ → Element
numeral rest =
    let radix = prefix_radix (slice_index rest 1) in
    if not (has_byte rest 0 0x30) then decimal_number rest
    else (if is_digit radix (slice_index rest 2) then whole_number rest (run (Digit radix) 2 rest)
    else (if is_digit 10 (slice_index rest 1) then legacy_number rest
    else decimal_number rest))

-- neither a digit nor a name may follow at once
unfoldable pub number : List ℕ → Result Element LexFaultKind
number rest =
    let found = numeral rest in
    let behind = drop found.len rest in
    if is_digit 10 (slice_index behind 0) || nat_lt 0 (name_start_len behind) then Err BadNumber else Ok found
