-- A list with one number more than another, and where the changes of a slot's list put it.
use Rattle.std.proofs.Common.{◌≡◌, ◌≢◌, ◌⊎◌, inl, inr, ⊎_elim, sym, ◌∙◌, ap, subst, refl, ℕ, List, [], ◌∷◌, ◌++◌, Option, Some, None}
use Rattle.std.proofs.lemmas.Bool.Decides.{eqb_tells}
use Rattle.node_arena.proofs.Edits.{same_or_not}
use Rattle.node_arena.specs.Lists.{Among, Distinct, head_or, last_or, insert_after, insert_before, without}

-- the list `big` is `small` with x in a gap
pub record IsGap (small big : List ℕ) (x : ℕ) : Type 0 where
  pub front : List ℕ
  pub back : List ℕ
  pub small_is : small ≡ front ++ back
  pub big_is : big ≡ front ++ x ∷ back

among_more : (y x : ℕ) (us vs : List ℕ) → Among y (us ++ vs) → Among y (us ++ x ∷ vs)
among_more y x [] vs m = inr m
among_more y x (a ∷ us) vs m = ⊎_elim inl (λ k. inr (among_more y x us vs k)) m

among_new : (x : ℕ) (us vs : List ℕ) → Among x (us ++ x ∷ vs)
among_new x [] vs = inl refl
among_new x (a ∷ us) vs = inr (among_new x us vs)

among_less : (y x : ℕ) (us vs : List ℕ) → Among y (us ++ x ∷ vs) → (y ≡ x) ⊎ Among y (us ++ vs)
among_less y x [] vs m = m
among_less y x (a ∷ us) vs m = ⊎_elim (λ e. inr (inl e)) (λ k. ⊎_elim inl (λ h. inr (inr h)) (among_less y x us vs k)) m

distinct_more : (x : ℕ) (us vs : List ℕ) → Distinct (us ++ vs) → (Among x (us ++ vs) → ⊥) → Distinct (us ++ x ∷ vs)
distinct_more x [] vs d n = (n, d)
distinct_more x (a ∷ us) vs d n =
    (λ m. ⊎_elim (λ e. n (inl (sym e))) d.0 (among_less a x us vs m), distinct_more x us vs d.1 (λ m. n (inr m)))

distinct_less : (x : ℕ) (us vs : List ℕ) → Distinct (us ++ x ∷ vs) → Distinct (us ++ vs) × (Among x (us ++ vs) → ⊥)
distinct_less x [] vs d = (d.1, d.0)
distinct_less x (a ∷ us) vs d =
    let k = distinct_less x us vs d.1 in
    ((λ m. d.0 (among_more a x us vs m), k.0), λ m. ⊎_elim (λ e. d.0 (subst (λ z. Among z (us ++ x ∷ vs)) e (among_new x us vs))) k.1 m)

pub gap_old : (small big : List ℕ) (x y : ℕ) → IsGap small big x → Among y small → Among y big
gap_old small big x y w m = subst (Among y) (sym w.big_is) (among_more y x w.front w.back (subst (Among y) w.small_is m))

pub gap_new : (small big : List ℕ) (x : ℕ) → IsGap small big x → Among x big
gap_new small big x w = subst (Among x) (sym w.big_is) (among_new x w.front w.back)

pub gap_back : (small big : List ℕ) (x y : ℕ) → IsGap small big x → Among y big → (y ≡ x) ⊎ Among y small
gap_back small big x y w m = ⊎_elim inl (λ k. inr (subst (Among y) (sym w.small_is) k)) (among_less y x w.front w.back (subst (Among y) w.big_is m))

pub gap_distinct : (small big : List ℕ) (x : ℕ) → IsGap small big x → Distinct small → (Among x small → ⊥) → Distinct big
gap_distinct small big x w d n =
    subst Distinct (sym w.big_is) (distinct_more x w.front w.back (subst Distinct w.small_is d) (λ m. n (subst (Among x) (sym w.small_is) m)))

pub gap_apart : (small big : List ℕ) (x : ℕ) → IsGap small big x → Distinct big → Distinct small × (Among x small → ⊥)
gap_apart small big x w d =
    let k = distinct_less x w.front w.back (subst Distinct w.big_is d) in
    (subst Distinct (sym w.small_is) k.0, λ m. k.1 (subst (Among x) w.small_is m))

-- Where the three changes put it: the gap, and the neighbours there.
-- after p: p is the last of the front
pub record IsAfter (p q : ℕ) (xs : List ℕ) : Type 0 where
  pub gap : IsGap xs (insert_after p q xs) q
  pub last : (o : Option ℕ) → last_or gap.front o ≡ Some p

-- before p: p is the head of the back
pub record IsBefore (p q : ℕ) (xs : List ℕ) : Type 0 where
  pub gap : IsGap xs (insert_before p q xs) q
  pub head : head_or gap.back None ≡ Some p

after_yes : (p q x : ℕ) (xs : List ℕ) → x ≡ p → insert_after p q (x ∷ xs) ≡ x ∷ (q ∷ xs)
after_yes p q x xs e = ⊎_elim (λ d. rw d.0 refl) (λ d. absurd (d.1 e)) (eqb_tells x p)

after_no : (p q x : ℕ) (xs : List ℕ) → x ≢ p → insert_after p q (x ∷ xs) ≡ x ∷ insert_after p q xs
after_no p q x xs n = ⊎_elim (λ d. absurd (n d.1)) (λ d. rw d.0 refl) (eqb_tells x p)

before_yes : (p q x : ℕ) (xs : List ℕ) → x ≡ p → insert_before p q (x ∷ xs) ≡ q ∷ (x ∷ xs)
before_yes p q x xs e = ⊎_elim (λ d. rw d.0 refl) (λ d. absurd (d.1 e)) (eqb_tells x p)

before_no : (p q x : ℕ) (xs : List ℕ) → x ≢ p → insert_before p q (x ∷ xs) ≡ x ∷ insert_before p q xs
before_no p q x xs n = ⊎_elim (λ d. absurd (n d.1)) (λ d. rw d.0 refl) (eqb_tells x p)

without_yes : (p x : ℕ) (xs : List ℕ) → x ≡ p → without p (x ∷ xs) ≡ xs
without_yes p x xs e = ⊎_elim (λ d. rw d.0 refl) (λ d. absurd (d.1 e)) (eqb_tells x p)

without_no : (p x : ℕ) (xs : List ℕ) → x ≢ p → without p (x ∷ xs) ≡ x ∷ without p xs
without_no p x xs n = ⊎_elim (λ d. absurd (n d.1)) (λ d. rw d.0 refl) (eqb_tells x p)

rest_has : (p x : ℕ) (xs : List ℕ) → x ≢ p → Among p (x ∷ xs) → Among p xs
rest_has p x xs n m = ⊎_elim (λ e. absurd (n (sym e))) (λ k. k) m

pub after_gap : (p q : ℕ) (xs : List ℕ) → Among p xs → IsAfter p q xs
after_gap p q [] m = absurd m
after_gap p q (x ∷ xs) m =
    ⊎_elim
    (λ e. record { gap = record { front = x ∷ []; back = xs; small_is = refl; big_is = after_yes p q x xs e }; last = λ o. ap Some e })
    (λ n.
    let w = after_gap p q xs (rest_has p x xs n m) in
    record {
      gap = record { front = x ∷ w.gap.front; back = w.gap.back; small_is = ap (λ z. x ∷ z) w.gap.small_is; big_is = after_no p q x xs n ∙ ap (λ z. x ∷ z) w.gap.big_is };
      last = λ o. w.last (Some x);
    }) (same_or_not x p)

pub before_gap : (p q : ℕ) (xs : List ℕ) → Among p xs → IsBefore p q xs
before_gap p q [] m = absurd m
before_gap p q (x ∷ xs) m =
    ⊎_elim
    (λ e. record { gap = record { front = []; back = x ∷ xs; small_is = refl; big_is = before_yes p q x xs e }; head = ap Some e })
    (λ n.
    let w = before_gap p q xs (rest_has p x xs n m) in
    record {
      gap = record { front = x ∷ w.gap.front; back = w.gap.back; small_is = ap (λ z. x ∷ z) w.gap.small_is; big_is = before_no p q x xs n ∙ ap (λ z. x ∷ z) w.gap.big_is };
      head = w.head;
    }) (same_or_not x p)

pub without_gap : (p : ℕ) (xs : List ℕ) → Among p xs → IsGap (without p xs) xs p
without_gap p [] m = absurd m
without_gap p (x ∷ xs) m =
    ⊎_elim
    (λ e. record { front = []; back = xs; small_is = without_yes p x xs e; big_is = ap (λ z. z ∷ xs) e })
    (λ n.
    let w = without_gap p xs (rest_has p x xs n m) in
    record { front = x ∷ w.front; back = w.back; small_is = without_no p x xs n ∙ ap (λ z. x ∷ z) w.small_is; big_is = ap (λ z. x ∷ z) w.big_is })
    (same_or_not x p)
