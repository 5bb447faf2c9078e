-- Characters of names in ASCII.
use Rattle.std.proofs.Common.{◌≡◌, ℕ, ◌<◌, true, false, ◌||◌, ◌&&◌, refl, ⊎_elim, arith}
use Rattle.std.specs.Prelude.{◌==◌, nat_lt}
use Rattle.std.specs.Char.{is_ascii_alphabetic, is_ascii_alphanumeric}
use Rattle.std.proofs.lemmas.Bool.{lt-ltb, ne_eqb, cases_Bool}
use Rattle.unicode_ident.proofs.IdentLemmas.{is_xid_start-ascii, is_xid_continue-ascii}
use Rattle.js_tokens.specs.Characters.{starts_name, continues_name}

pub ascii_start : (byte : ℕ) → byte < 128 → (byte == 0x24 || byte == 0x5F || is_ascii_alphabetic byte) ≡ (nat_lt byte 0x80 && starts_name byte)
unfolding starts_name
ascii_start byte small =
    let known = is_xid_start-ascii byte small in
    let low = lt-ltb byte 0x80 small in
    let is_char = lt-ltb byte 0xD800 (omega arith) in
    rw (low, is_char, known) refl

abbrev PartIs : ℕ → Type 0
PartIs byte = (byte == 0x24 || is_ascii_alphanumeric byte || byte == 0x5F) ≡ (nat_lt byte 0x80 && continues_name byte)

dollar-part : (byte : ℕ) → nat_lt byte 0x80 ≡ true → (byte == 0x24) ≡ true → PartIs byte
unfolding continues_name
dollar-part byte low dollar = rw (low, dollar) refl

other-part : (byte : ℕ) → byte < 128 → nat_lt byte 0x80 ≡ true → (byte == 0x24) ≡ false → PartIs byte
unfolding continues_name
other-part byte small low other =
    let known = is_xid_continue-ascii byte small in
    let is_char = lt-ltb byte 0xD800 (omega arith) in
    let no_joiner = ne_eqb byte 0x200C (λ e. absurd (omega (arith, e))) in
    let joins_not = ne_eqb byte 0x200D (λ e. absurd (omega (arith, e))) in
    rw (low, other, no_joiner, joins_not, is_char, known) refl

pub ascii_part : (byte : ℕ) → byte < 128 → (byte == 0x24 || is_ascii_alphanumeric byte || byte == 0x5F) ≡ (nat_lt byte 0x80 && continues_name byte)
ascii_part byte small =
    let low = lt-ltb byte 0x80 small in
    ⊎_elim (dollar-part byte low) (other-part byte small low) (cases_Bool (byte == 0x24))
