-- One column of a table, and a row of it.
use Rattle.std.proofs.Common.{◌≡◌, ◌∙◌, ℕ, zero, suc, List, [], ◌∷◌, map, refl, ap}
use Rattle.std.specs.Prelude.{slice_index_or}

at_column : {A : Type 0} {B : Type 0} (f : A → B) (rows : List A) (n : ℕ) (other : A) → f (slice_index_or rows n other) ≡ slice_index_or (map f rows) n (f other)
at_column f [] n other = refl
at_column f (row ∷ rows) zero other = refl
at_column f (row ∷ rows) (suc n) other = at_column f rows n other

pub in_column : {A : Type 0} {B : Type 0} (f : A → B) (rows : List A) (found : List B) (n : ℕ) (other : A) → map f rows ≡ found → f (slice_index_or rows n other) ≡ slice_index_or found n (f other)
in_column f rows found n other is = at_column f rows n other ∙ ap (λ all. slice_index_or all n (f other)) is
