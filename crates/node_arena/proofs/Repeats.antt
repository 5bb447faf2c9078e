-- One more of the same behind a list.
use Rattle.std.proofs.Common.{◌≡◌, ◌∙◌, sym, ap, ℕ, ◌+◌, List, [], ◌∷◌, ◌++◌, replicate, append_assoc, refl}
use Rattle.std.proofs.lemmas.List.{replicate-append-replicate}

one_more : {A : Type 0} → (x : A) → replicate 1 x ≡ x ∷ []
one_more x = refl

pub repeat_more : {A : Type 0} → (xs ys zs : List A) (n : ℕ) (x : A) → ys ≡ xs ++ replicate n x → zs ≡ ys ++ x ∷ [] → zs ≡ xs ++ replicate (n + 1) x
repeat_more xs ys zs n x e h =
    h ∙ (ap (λ w. w ++ x ∷ []) e ∙ (append_assoc xs (replicate n x) (x ∷ []) ∙ ap (λ w. xs ++ w) (ap (λ w. replicate n x ++ w) (sym (one_more x)) ∙ replicate-append-replicate n 1 x)))
