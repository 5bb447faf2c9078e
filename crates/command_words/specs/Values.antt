-- What the values of options say.
use Rattle.std.specs.Prelude.{ℕ, ◌==◌, ◌&&◌, Bool, List, length, Option, Some, None, if◌then◌else◌, nat_le, codes}
use Rattle.std.specs.Char.{is_digit}
use Rattle.std.specs.List.{list_all, list_any, slice_split}
use Rattle.std.specs.Str.{bytes_eq}
use Rattle.std.specs.Str.Parse.{digits_value}
use Rattle.clap.specs.Words.{Text}
use Rattle.cm_text.specs.declared.layout.Quote.{Quote}
use Rattle.cm_text.specs.declared.layout.Quote.TheVariants.{Double, Single}

-- decimal digits and nothing else
abbrev pub is_decimal : Text → Bool
is_decimal = list_all (λ c. is_digit c 10)

abbrev pub one_to : ℕ → ℕ → Option ℕ
one_to most n = if nat_le 1 n && nat_le n most then Some n else None

-- the number that the text writes in decimal digits, where it lies in 1 to `most`
abbrev pub number_to : ℕ → Text → Option ℕ
number_to most text = if is_decimal text then one_to most (digits_value 10 text) else None

-- steps of a script: at most 13 digits
abbrev pub fuel_in : Text → Option ℕ
fuel_in text = if nat_le (length text) 13 then number_to 1000000000000 text else None

abbrev pub is_empty : Text → Bool
is_empty text = length text == 0

abbrev pub none_empty : List Text → Option (List Text)
none_empty names = if list_any is_empty names then None else Some names

-- the names that commas (44) part, where none is empty
abbrev pub names_in : Text → Option (List Text)
names_in text = none_empty (slice_split (λ c. c == 44) text)

-- the marks in which strings are to stand
abbrev pub quote_in : Text → Option Quote
quote_in text = if bytes_eq text (codes "single") then Some Single else if bytes_eq text (codes "double") then Some Double else None
