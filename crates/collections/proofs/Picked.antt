-- Lists with some places left out.
use Rattle.std.proofs.Common.{◌≡◌, ℕ, Bool, true, false, cond, List, [], ◌∷◌, ◌++◌, filter, sym, ap, ◌∙◌, append-nil, subst}
use Rattle.std.proofs.lemmas.List.Elements.{filter-append}
use Rattle.collections.specs.Found.{Picks, nothing, picked, passed}

keep_last : {ys xs : List ℕ} (x : ℕ) → Picks ys xs → Picks (ys ++ x ∷ []) (xs ++ x ∷ [])
keep_last x nothing = picked x nothing
keep_last x (picked y p) = picked y (keep_last x p)
keep_last x (passed y p) = passed y (keep_last x p)

skip_last : {ys xs : List ℕ} (x : ℕ) → Picks ys xs → Picks ys (xs ++ x ∷ [])
skip_last x nothing = passed x nothing
skip_last x (picked y p) = picked y (skip_last x p)
skip_last x (passed y p) = passed y (skip_last x p)

pub picks_none : (ys xs : List ℕ) → ys ≡ [] → xs ≡ [] → Picks ys xs
picks_none ys xs e f = subst (λ z. Picks z xs) (sym e) (subst (λ z. Picks [] z) (sym f) nothing)

pub picks_keep : (ys xs new more : List ℕ) (x : ℕ) → Picks ys xs → new ≡ ys ++ x ∷ [] → more ≡ xs ++ x ∷ [] → Picks new more
picks_keep ys xs new more x p e f = subst (λ z. Picks z more) (sym e) (subst (λ z. Picks (ys ++ x ∷ []) z) (sym f) (keep_last x p))

pub picks_skip : (ys xs more : List ℕ) (x : ℕ) → Picks ys xs → more ≡ xs ++ x ∷ [] → Picks ys more
picks_skip ys xs more x p f = subst (λ z. Picks ys z) (sym f) (skip_last x p)

pub filter_keep : (f : ℕ → Bool) (ys xs new : List ℕ) (x : ℕ) → ys ≡ filter f xs → f x ≡ true → new ≡ ys ++ x ∷ [] → new ≡ filter f (xs ++ x ∷ [])
filter_keep f ys xs new x e t n = n ∙ (ap (λ z. z ++ x ∷ []) e ∙ (ap (λ b. filter f xs ++ cond b (x ∷ []) []) (sym t) ∙ sym (filter-append f xs (x ∷ []))))

pub filter_skip : (f : ℕ → Bool) (ys xs more : List ℕ) (x : ℕ) → ys ≡ filter f xs → f x ≡ false → more ≡ xs ++ x ∷ [] → ys ≡ filter f more
filter_skip f ys xs more x e t m =
    e ∙ (sym (append-nil (filter f xs)) ∙ (ap (λ b. filter f xs ++ cond b (x ∷ []) []) (sym t) ∙ (sym (filter-append f xs (x ∷ [])) ∙ ap (filter f) (sym m))))
