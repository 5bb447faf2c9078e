-- Line ends and the fronts of lines (ECMA-262, clause 12.3), by offsets into a text's bytes.
use Rattle.std.specs.Prelude.{ℕ, zero, suc, ◌+◌, ◌-◌, ◌*◌, ◌/◌, ◌==◌, ◌&&◌, Bool, List, [], ◌∷◌, drop, slice_index, Option, Some, None, is_some, if◌then◌else◌}
use Rattle.cm_text.specs.declared.line_end.LineEnd.{LineEnd}
use Rattle.cm_text.specs.declared.line_end.LineEnd.TheVariants.{Lf, CrLf, Cr, Ls, Ps}

-- a line feed ends a line, together with a carriage return right before it
abbrev pub feed_end : List ℕ → ℕ → LineEnd
feed_end bytes at = if slice_index bytes (at - 1) == 0x0D then CrLf else Lf

-- a carriage return ends a line, unless a line feed follows and ends it
abbrev pub return_end : List ℕ → ℕ → Option LineEnd
return_end bytes at = if slice_index bytes (at + 1) == 0x0A then None else Some Cr

-- the two bytes before the offset are those that U+2028 and U+2029 begin with
abbrev pub follows_separator_lead : List ℕ → ℕ → Bool
follows_separator_lead bytes at = slice_index bytes (at - 2) == 0xE2 && slice_index bytes (at - 1) == 0x80

-- the line end whose last byte is the one at the offset
unfoldable pub line_end_at : List ℕ → ℕ → Option LineEnd
line_end_at bytes at =
    if slice_index bytes at == 0x0A then Some (feed_end bytes at)
    else (if slice_index bytes at == 0x0D then return_end bytes at
    else (if slice_index bytes at == 0xA8 && follows_separator_lead bytes at then Some Ls
    else (if slice_index bytes at == 0xA9 && follows_separator_lead bytes at then Some Ps
    else None)))

-- a line end has its last byte at the offset
abbrev pub ends_line : List ℕ → ℕ → Bool
ends_line bytes at = is_some (line_end_at bytes at)

-- how many line ends have their last byte before the offset
unfoldable pub lines_before : List ℕ → ℕ → ℕ
lines_before bytes zero = 0
lines_before bytes (suc at) = if ends_line bytes at then lines_before bytes at + 1 else lines_before bytes at

-- where the line begins that the offset is on: behind the last line end before it
unfoldable pub line_start : List ℕ → ℕ → ℕ
line_start bytes zero = 0
line_start bytes (suc at) = if ends_line bytes at then suc at else line_start bytes at

-- the first line end that has its last byte before the offset
unfoldable pub first_line_end : List ℕ → ℕ → Option LineEnd
first_line_end bytes zero = None
first_line_end bytes (suc at) = if is_some (first_line_end bytes at) then first_line_end bytes at else line_end_at bytes at

-- the column to which a tab goes from this one
abbrev pub tab_stop : ℕ → ℕ → ℕ
tab_stop width column = (column / width + 1) * width

-- the column behind the spaces and tabs that open these bytes, which begin at this column
abbrev pub blank_end : ℕ → ℕ → List ℕ → ℕ
blank_end width column [] = column
blank_end width column (byte ∷ bytes) =
    if byte == 0x20 then blank_end width (column + 1) bytes
    else (if byte == 0x09 then blank_end width (tab_stop width column) bytes
    else column)

-- the width of the spaces and tabs that open the line of the offset
abbrev pub front_width : List ℕ → ℕ → ℕ → ℕ
front_width bytes at width = blank_end width 0 (drop (line_start bytes at) bytes)
