-- Which bytes make a source text.
use Rattle.std.specs.Prelude.{ℕ, List, length, nat_lt, Result, Ok, Err, if◌then◌else◌}
use Rattle.std.specs.Str.{is_utf8}
use Rattle.std.specs.Str.Lossy.{utf8_valid_len}
use Rattle.cm_text.specs.declared.fault.TextFault.{TextFault}
use Rattle.cm_text.specs.declared.fault.TextFault.TheVariants.{TooLong, NotUtf8}
use Rattle.cm_text.specs.declared.source.TheConstants.{MAX_LENGTH}

-- the text of these bytes: the bytes themselves, or the length of what is too long, or the place
-- where the longest front that is UTF-8 ends
abbrev pub source_of : List ℕ → Result (List ℕ) TextFault
source_of bytes =
    if nat_lt MAX_LENGTH (length bytes) then Err (TooLong (length bytes))
    else (if is_utf8 bytes then Ok bytes else Err (NotUtf8 (utf8_valid_len bytes)))
