-- Words in texts of two pieces.
use Rattle.std.proofs.Common.{◌≡◌, ◌≤◌, ℕ, List, [], ◌∷◌, ◌++◌, length, drop, take, ◌&&◌, refl, ⊎_elim, arith}
use Rattle.std.specs.Prelude.{◌==◌, bytes_eq}
use Rattle.std.proofs.lemmas.Bool.{cases_Bool}

pub joined_eq : (front rest word : List ℕ) → length front ≤ length word →
    bytes_eq word (front ++ rest) ≡ (bytes_eq (take (length front) word) front && bytes_eq (drop (length front) word) rest)
joined_eq [] rest word long = refl
joined_eq (byte ∷ front) rest [] long = absurd (omega arith)
joined_eq (byte ∷ front) rest (letter ∷ word) long =
    let behind = joined_eq front rest word (omega arith) in
    ⊎_elim (λ same. rw same behind) (λ other. rw other refl) (cases_Bool (letter == byte))
