-- Which numbers a script has (ECMA-262, clause 12.9.3, DecimalIntegerLiteral).
use Rattle.std.specs.Prelude.{ℕ, Bool, true, false, List, [], ◌∷◌, nat_le, nat_eq, ◌&&◌, not}

-- a decimal digit, as a code unit
abbrev pub is_digit : ℕ → Bool
is_digit unit = nat_le 48 unit && nat_le unit 57

abbrev pub is_digits : List ℕ → Bool
is_digits [] = true
is_digits (unit ∷ more) = is_digit unit && is_digits more

-- there is a first digit, and it is no zero before others
abbrev pub has_no_lead : List ℕ → Bool
has_no_lead [] = false
has_no_lead (unit ∷ []) = true
has_no_lead (unit ∷ next ∷ more) = not (nat_eq unit 48)

abbrev pub is_whole_decimal : List ℕ → Bool
is_whole_decimal raw = has_no_lead raw && is_digits raw
