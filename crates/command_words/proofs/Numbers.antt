-- Numbers in decimal digits, as `parse` reads them.
use Rattle.std.proofs.Common.{◌≡◌, ◌≢◌, ◌<◌, ◌≤◌, ◌^◌, ◌&&◌, ℕ, Bool, true, false, [], ◌∷◌, length, slice_index, None, refl, ap, sym, arith, lt-ltb, ltb-true, leb-true, ne_eqb, true≢false}
use Rattle.std.specs.Prelude.{nat_le}
use Rattle.std.specs.Str.Parse.{AllDigits, IsNumeral, digits_value, without_leading_plus}
use Rattle.std.specs.Char.{digit_value}
use Rattle.clap.specs.Words.{Text}
use Rattle.command_words.specs.Values.{is_decimal, number_to, one_to}

unsigned : (text : Text) → slice_index text 0 ≢ 43 → without_leading_plus text ≡ text
unsigned text bare = rw (ne_eqb (slice_index text 0) 43 bare) refl

decimal_from : (text : Text) → AllDigits 10 text → is_decimal text ≡ true
decimal_from [] h = refl
decimal_from (c ∷ cs) h = rw (lt-ltb (digit_value c) 10 h.0) (decimal_from cs h.1)

both : (a b : Bool) → (a && b) ≡ true → (a ≡ true) × (b ≡ true)
both true b e = (refl, e)
both false b e = absurd (true≢false (sym e))

digits_from : (text : Text) → is_decimal text ≡ true → AllDigits 10 text
digits_from [] e = tt
digits_from (c ∷ cs) e =
    let parts = both _ _ e in
    (ltb-true _ _ parts.0, digits_from cs parts.1)

written : (text : Text) → 1 ≤ digits_value 10 text → 0 < length text
written [] h = absurd (omega arith)
written (c ∷ cs) h = omega arith

abbrev IsRead : Text → Type 0
IsRead text = IsNumeral 10 text × (digits_value 10 text < 2 ^ 64)

-- what `parse` reads
pub number_read : (most n : ℕ) (text : Text) → slice_index text 0 ≢ 43 → IsRead (without_leading_plus text) × (n ≡ digits_value 10 (without_leading_plus text)) → one_to most n ≡ number_to most text
number_read most n text bare h =
    let read = rw (unsigned text bare) at h in
    rw (decimal_from text read.0.0.1) (ap (one_to most) read.1)

-- what `parse` refuses
pub number_refused : (most : ℕ) (text : Text) → most < 2 ^ 64 → slice_index text 0 ≢ 43 → (IsRead (without_leading_plus text) → ⊥) → None ≡ number_to most text
number_refused most text fits bare h = decimal (is_decimal text) refl
  where
    no : IsRead text → ⊥
    no = rw (unsigned text bare) at h

    in_range : (b : Bool) → is_decimal text ≡ true → (nat_le 1 (digits_value 10 text) && nat_le (digits_value 10 text) most) ≡ b → None ≡ one_to most (digits_value 10 text)
    in_range false digits t = rw t refl
    in_range true digits t =
        let parts = both _ _ t in
        let least : 1 ≤ digits_value 10 text = leb-true _ _ parts.0 in
        let last : digits_value 10 text ≤ most = leb-true _ _ parts.1 in
        absurd (no ((written text least, digits_from text digits), omega (arith, last, fits)))

    decimal : (b : Bool) → is_decimal text ≡ b → None ≡ number_to most text
    decimal false t = rw t refl
    decimal true t = rw t (in_range _ t refl)

pub empty_writes_none : (most : ℕ) (text : Text) → length text ≡ 0 → None ≡ number_to most text
empty_writes_none most [] e = refl
empty_writes_none most (c ∷ cs) e = absurd (omega arith)

pub sign_is_no_digit : (most : ℕ) (text : Text) → slice_index text 0 ≡ 43 → None ≡ number_to most text
sign_is_no_digit most [] e = absurd (omega arith)
sign_is_no_digit most (c ∷ cs) e = ap (λ x. number_to most (x ∷ cs)) (sym e)
