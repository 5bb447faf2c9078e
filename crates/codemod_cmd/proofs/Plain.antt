-- The new name of a sample.
use Rattle.std.proofs.Common.{◌≡◌, ℕ, zero, suc, ◌<◌, true, [], ◌∷◌, length, refl, arith}
use Rattle.std.specs.Prelude.{slice_index}
use Rattle.first_grammar.specs.Words.{is_part, is_reserved}
use Rattle.first_rename.specs.Names.{IsPlainName}

rest_b : (k : ℕ) → k < length {A = ℕ} (98 ∷ []) → is_part (slice_index (98 ∷ []) k) ≡ true
rest_b zero h = refl
rest_b (suc k) h = absurd (omega arith)

pub plain_b : IsPlainName (98 ∷ [])
unfolding is_reserved
plain_b = record { some = omega arith; first = refl; rest = rest_b; free = refl }
