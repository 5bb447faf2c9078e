-- The three cases of a source text.
use Rattle.std.proofs.Common.{◌≡◌, ◌≤◌, ℕ, List, length, Bool, true, false, Ok, Err, refl, arith}
use Rattle.std.proofs.lemmas.Str.{IsUtf8-from_is_utf8, is_utf8-from_IsUtf8}
use Rattle.std.proofs.lemmas.Bool.Decides.{nat_tests}
use Rattle.std.specs.Str.{IsUtf8, is_utf8}
use Rattle.std.specs.Str.Lossy.{utf8_valid_len}
use Rattle.cm_text.specs.declared.fault.TextFault.TheVariants.{NotUtf8}
use Rattle.cm_text.specs.Text.{source_of}

false_unless : (b : Bool) → (b ≡ true → ⊥) → b ≡ false
false_unless true never = absurd (never refl)
false_unless false never = refl

pub source_of-utf8 : (bytes : List ℕ) → length bytes ≤ 2097152 → IsUtf8 bytes → source_of bytes ≡ Ok bytes
source_of-utf8 bytes short text =
    let passes = is_utf8-from_IsUtf8 bytes text in
    grind (arith, nat_tests)

pub source_of-not_utf8 : (bytes : List ℕ) (n : ℕ) → length bytes ≤ 2097152 → ¬ (IsUtf8 bytes) → n ≡ utf8_valid_len bytes → source_of bytes ≡ Err (NotUtf8 n)
source_of-not_utf8 bytes n short fault at_n =
    let fails = false_unless (is_utf8 bytes) (λ e. fault (IsUtf8-from_is_utf8 bytes e)) in
    grind (arith, nat_tests)
