-- White space, line ends and comments (ECMA-262, clauses 12.2 to 12.4). Each function is given the
-- bytes from there to the end of the text. A length of 0 says that none stands there.
use Rattle.std.specs.Prelude.{ℕ, ◌+◌, ◌==◌, ◌&&◌, ◌||◌, not, Bool, false, List, [], ◌∷◌, slice_index, nat_le, if◌then◌else◌}
use Rattle.js_tokens.specs.Characters.{char_len, first_char}
use Rattle.js_lexer.specs.declared.parts.Part.TheVariants.{OfLineComment, OfBlockComment}
use Rattle.js_lexer.specs.Parts.{breaks_line, has_byte, row_end, run}

abbrev pub is_white_space : ℕ → Bool
is_white_space code =
    code == 0x09 || code == 0x0B || code == 0x0C || code == 0x20 || code == 0xA0 || code == 0x1680
    || (nat_le 0x2000 code && nat_le code 0x200A) || code == 0x202F || code == 0x205F || code == 0x3000 || code == 0xFEFF

abbrev pub is_line_end : ℕ → Bool
is_line_end code = code == 0x0A || code == 0x0D || code == 0x2028 || code == 0x2029

-- from `/*` to the first `*/` behind it, none where there is no such
abbrev pub block_comment_len : List ℕ → ℕ
block_comment_len rest =
    let inside = run OfBlockComment 2 rest in
    if has_byte rest (inside + 1) 0x2F then inside + 2 else 0

-- from `//` to the line end, or the whole comment of many lines
unfoldable pub comment_len : List ℕ → ℕ
comment_len rest =
    if not (has_byte rest 0 0x2F) then 0
    else (if has_byte rest 1 0x2F then run OfLineComment 2 rest
    else (if not (has_byte rest 1 0x2A) then 0
    else block_comment_len rest))

-- a blank character or a comment
unfoldable pub blank_len : List ℕ → ℕ
blank_len rest =
    let code = first_char rest in
    if is_white_space code || is_line_end code then char_len (slice_index rest 0)
    else comment_len rest

-- where the blanks and comments end with which the bytes begin
abbrev pub gap_len : List ℕ → ℕ
gap_len rest = row_end blank_len 0 0 rest

unfoldable pub has_line_end : List ℕ → Bool
has_line_end [] = false
has_line_end (byte ∷ rest) = breaks_line (byte ∷ rest) || has_line_end rest
