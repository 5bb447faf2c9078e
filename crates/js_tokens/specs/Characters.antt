-- Characters in UTF-8, and which of them make names (ECMA-262, clause 12.7).
use Rattle.std.specs.Prelude.{ℕ, ◌+◌, ◌*◌, ◌%◌, ◌==◌, ◌&&◌, ◌||◌, Bool, List, slice_index, nat_lt, if◌then◌else◌}
use Rattle.unicode_ident.specs.Ident.{is_xid_start, is_xid_continue}

-- the low six bits of the byte at the offset
abbrev pub low_six : List ℕ → ℕ → ℕ
low_six bytes at = slice_index bytes at % 0x40

-- how many bytes a character takes that begins with this byte
abbrev pub char_len : ℕ → ℕ
char_len lead =
    if nat_lt lead 0x80 then 1
    else (if nat_lt lead 0xE0 then 2
    else (if nat_lt lead 0xF0 then 3
    else 4))

-- the code point of the character that the bytes begin with
unfoldable pub first_char : List ℕ → ℕ
first_char bytes =
    let lead = slice_index bytes 0 in
    if nat_lt lead 0x80 then lead
    else (if nat_lt lead 0xE0 then lead % 0x20 * 0x40 + low_six bytes 1
    else (if nat_lt lead 0xF0 then (lead % 0x10 * 0x40 + low_six bytes 1) * 0x40 + low_six bytes 2
    else ((lead % 0x08 * 0x40 + low_six bytes 1) * 0x40 + low_six bytes 2) * 0x40 + low_six bytes 3))

-- the code point is that of a character, and no surrogate's
abbrev pub is_char : ℕ → Bool
is_char code = nat_lt code 0xD800 || (nat_lt 0xDFFF code && nat_lt code 0x11_0000)

-- a name begins with a character of XID_Start, `$` or `_`
unfoldable pub starts_name : ℕ → Bool
starts_name code = code == 0x24 || code == 0x5F || (is_char code && is_xid_start code)

-- and goes on with one of XID_Continue, `$`, U+200C or U+200D
unfoldable pub continues_name : ℕ → Bool
continues_name code = code == 0x24 || code == 0x200C || code == 0x200D || (is_char code && is_xid_continue code)
