-- One element more of a list of scalars.
use Rattle.std.proofs.Common.{◌≡◌, ℕ, ◌+◌, List, ◌++◌, ◌∷◌, [], Some, take, slice_get, sym, ap, ◌∙◌}
use Rattle.std.proofs.lemmas.List.{take_more}
use Rattle.std.proofs.lemmas.Option.{slice_get_within, get_or_from_slice_get}
use Rattle.tree_core.specs.declared.scalars.Scalar.{Scalar}

pub take_got : (xs : List Scalar) (i : ℕ) (x : Scalar) → Some x ≡ slice_get xs i → take (i + 1) xs ≡ take i xs ++ x ∷ []
take_got xs i x e =
    take_more xs i x (slice_get_within xs i x (sym e)) ∙ ap (λ z. take i xs ++ z ∷ []) (get_or_from_slice_get xs i x x (sym e))
