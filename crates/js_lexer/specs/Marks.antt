-- Punctuators (ECMA-262, clause 12.8): the longest that stands there. Each function is given the
-- bytes from the punctuator's start to the end of the text.
use Rattle.std.specs.Prelude.{ℕ, ◌==◌, ◌&&◌, not, List, slice_index, Option, Some, None, if◌then◌else◌}
use Rattle.std.specs.Option.{option_map_or}
use Rattle.js_tokens.specs.declared.token.TokenKind.TheVariants as token
use Rattle.js_tokens.specs.declared.punctuator.Punctuator.{Punctuator}
use Rattle.js_tokens.specs.declared.punctuator.Punctuator.TheVariants as p
use Rattle.js_lexer.specs.declared.element.Element.{Element}
use Rattle.js_lexer.specs.Parts.{has_byte, is_digit}

-- the punctuator, of so many bytes
abbrev pub mark : Punctuator → ℕ → Element
mark punctuator len = record { kind = token.Punctuator punctuator; len = len }

-- a character that stands alone, or before `=`
abbrev pub with_equal : List ℕ → Punctuator → Punctuator → Element
with_equal rest alone equal = if has_byte rest 1 0x3D then mark equal 2 else mark alone 1

-- a character that stands twice, twice before `=`, or else once
abbrev pub doubled : List ℕ → Element → Punctuator → Punctuator → Element
doubled rest once twice twice_equal =
    if not (has_byte rest 1 (slice_index rest 0)) then once
    else (if has_byte rest 2 0x3D then mark twice_equal 3 else mark twice 2)

-- a character that stands twice, before `=`, or alone
abbrev pub stepping : List ℕ → Punctuator → Punctuator → Punctuator → Element
stepping rest alone equal twice = if has_byte rest 1 (slice_index rest 0) then mark twice 2 else with_equal rest alone equal

unfoldable pub dots : List ℕ → Element
dots rest = if has_byte rest 1 0x2E && has_byte rest 2 0x2E then mark p.Ellipsis 3 else mark p.Dot 1

unfoldable pub greater : List ℕ → Element
greater rest =
    if has_byte rest 1 0x3E && has_byte rest 2 0x3E then
    (if has_byte rest 3 0x3D then mark p.ShiftRightUnsignedAssign 4 else mark p.ShiftRightUnsigned 3)
    else doubled rest (with_equal rest p.Greater p.GreaterEqual) p.ShiftRight p.ShiftRightAssign

unfoldable pub equals : List ℕ → Element
equals rest = if has_byte rest 1 0x3E then mark p.Arrow 2 else doubled rest (mark p.Assign 1) p.Equal p.StrictEqual

unfoldable pub bang : List ℕ → Element
bang rest = if has_byte rest 1 0x3D && has_byte rest 2 0x3D then mark p.StrictNotEqual 3 else with_equal rest p.Bang p.NotEqual

-- `?.` is none before a digit
unfoldable pub question : List ℕ → Element
question rest =
    if has_byte rest 1 0x2E && not (is_digit 10 (slice_index rest 2)) then mark p.OptionalDot 2
    else doubled rest (mark p.Question 1) p.Nullish p.NullishAssign

-- what is a punctuator of one byte and begins no other
abbrev pub lone : ℕ → Option Punctuator
lone byte =
    if byte == 0x7B then Some p.OpenBrace else (if byte == 0x7D then Some p.CloseBrace
    else (if byte == 0x28 then Some p.OpenParen else (if byte == 0x29 then Some p.CloseParen
    else (if byte == 0x5B then Some p.OpenBracket else (if byte == 0x5D then Some p.CloseBracket
    else (if byte == 0x3B then Some p.Semicolon else (if byte == 0x2C then Some p.Comma
    else (if byte == 0x3A then Some p.Colon else (if byte == 0x7E then Some p.Tilde else None)))))))))

-- the operators that may stand twice, and twice before `=`
unfoldable pub doubling : List ℕ → Option Element
doubling rest =
    let first = slice_index rest 0 in
    if first == 0x3C then Some (doubled rest (with_equal rest p.Less p.LessEqual) p.ShiftLeft p.ShiftLeftAssign)
    else (if first == 0x2A then Some (doubled rest (with_equal rest p.Star p.StarAssign) p.StarStar p.StarStarAssign)
    else (if first == 0x26 then Some (doubled rest (with_equal rest p.Ampersand p.AmpersandAssign) p.AndAnd p.AndAssign)
    else (if first == 0x7C then Some (doubled rest (with_equal rest p.Bar p.BarAssign) p.OrOr p.OrAssign)
    else None)))

unfoldable pub operator : List ℕ → Option Element
operator rest =
    let first = slice_index rest 0 in
    if first == 0x2E then Some (dots rest)
    else (if first == 0x3D then Some (equals rest)
    else (if first == 0x21 then Some (bang rest)
    else (if first == 0x3E then Some (greater rest)
    else (if first == 0x3F then Some (question rest)
    else (if first == 0x2B then Some (stepping rest p.Plus p.PlusAssign p.PlusPlus)
    else (if first == 0x2D then Some (stepping rest p.Minus p.MinusAssign p.MinusMinus)
    else (if first == 0x25 then Some (with_equal rest p.Percent p.PercentAssign)
    else (if first == 0x5E then Some (with_equal rest p.Caret p.CaretAssign)
    else (if first == 0x2F then Some (with_equal rest p.Slash p.SlashAssign)
    else doubling rest)))))))))

unfoldable pub punctuator : List ℕ → Option Element
punctuator rest = option_map_or (λ alone. Some (mark alone 1)) (lone (slice_index rest 0)) (operator rest)
