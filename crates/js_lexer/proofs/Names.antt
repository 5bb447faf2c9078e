-- Characters of names in ASCII.
use Rattle.std.proofs.Common.{◌≡◌, ◌<◌, ℕ, List, false, ◌&&◌, refl}
use Rattle.std.specs.Prelude.{◌==◌, nat_lt, slice_index, if◌then◌else◌}
use Rattle.std.proofs.lemmas.Bool.{lt-ltb}
use Rattle.js_tokens.specs.Characters.{first_char, starts_name, continues_name}
use Rattle.js_lexer.specs.Parts.{name_start_len, name_part_len}

pub ascii_start_len : (rest : List ℕ) → slice_index rest 0 < 0x80 → (slice_index rest 0 == 0x5C) ≡ false →
    name_start_len rest ≡ (if nat_lt (slice_index rest 0) 0x80 && starts_name (slice_index rest 0) then 1 else 0)
unfolding name_start_len first_char
ascii_start_len rest ascii plain =
    let low = lt-ltb (slice_index rest 0) 0x80 ascii in
    rw (plain, low) refl

pub ascii_part_len : (rest : List ℕ) → slice_index rest 0 < 0x80 → (slice_index rest 0 == 0x5C) ≡ false →
    name_part_len rest ≡ (if nat_lt (slice_index rest 0) 0x80 && continues_name (slice_index rest 0) then 1 else 0)
unfolding name_part_len first_char
ascii_part_len rest ascii plain =
    let low = lt-ltb (slice_index rest 0) 0x80 ascii in
    rw (plain, low) refl
