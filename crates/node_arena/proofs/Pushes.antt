-- Reads of a list after a push, and of lists that are mapped.
use Rattle.std.proofs.Common.{◌≡◌, ◌≢◌, ◌⊎◌, inl, inr, ⊎_elim, sym, ◌∙◌, ap, refl, ℕ, zero, suc, ◌+◌, ◌<◌, List, [], ◌∷◌, ◌++◌, length, map, Option, Some, None, slice_get, arith}
use Rattle.node_arena.specs.Rows.{edit, edit_row}

pub push_old : {A : Type 0} → (xs : List A) (i : ℕ) (v x : A) → slice_get xs i ≡ Some x → slice_get (xs ++ v ∷ []) i ≡ Some x
push_old [] i v x h = absurd (cc)
push_old (y ∷ ys) zero v x h = h
push_old (y ∷ ys) (suc i) v x h = push_old ys i v x h

pub push_new : {A : Type 0} → (xs : List A) (v : A) → slice_get (xs ++ v ∷ []) (length xs) ≡ Some v
push_new [] v = refl
push_new (y ∷ ys) v = push_new ys v

pub push_away : {A : Type 0} → (xs : List A) (i : ℕ) (v : A) → i ≢ length xs → slice_get (xs ++ v ∷ []) i ≡ slice_get xs i
push_away [] zero v n = absurd (n refl)
push_away [] (suc i) v n = refl
push_away (y ∷ ys) zero v n = refl
push_away (y ∷ ys) (suc i) v n = push_away ys i v (λ e. n (ap suc e))

-- an item behind which something was put is an old one or one of those
pub append_old : {A : Type 0} → (xs ys : List A) (i : ℕ) (x : A) → slice_get xs i ≡ Some x → slice_get (xs ++ ys) i ≡ Some x
append_old [] ys i x h = absurd (cc)
append_old (z ∷ zs) ys zero x h = h
append_old (z ∷ zs) ys (suc i) x h = append_old zs ys i x h

pub append_new : {A : Type 0} → (xs ys : List A) (k : ℕ) → slice_get (xs ++ ys) (length xs + k) ≡ slice_get ys k
append_new [] ys k = let e : 0 + k ≡ k = omega arith in ap (slice_get ys) e
append_new (z ∷ zs) ys k = let e : suc (length zs) + k ≡ suc (length zs + k) = omega arith in ap (slice_get (z ∷ (zs ++ ys))) e ∙ append_new zs ys k

-- where an item of the list stands
pub record IsNew (A : Type 0) (n : ℕ) (ys : List A) (i : ℕ) (x : A) : Type 0 where
  pub at : ℕ
  pub is : i ≡ n + at
  pub item : slice_get ys at ≡ Some x

pub append_cases : {A : Type 0} → (xs ys : List A) (i : ℕ) (x : A) → slice_get (xs ++ ys) i ≡ Some x → (slice_get xs i ≡ Some x) ⊎ IsNew A (length xs) ys i x
append_cases [] ys i x h = inr (record { at = i; is = omega arith; item = h })
append_cases (z ∷ zs) ys zero x h = inl h
append_cases (z ∷ zs) ys (suc i) x h = ⊎_elim inl (λ w. let e = w.is in inr (record { at = w.at; is = omega arith; item = w.item })) (append_cases zs ys i x h)

pub push_cases : {A : Type 0} → (xs : List A) (i : ℕ) (v x : A) → slice_get (xs ++ v ∷ []) i ≡ Some x → (slice_get xs i ≡ Some x) ⊎ ((i ≡ length xs) × (x ≡ v))
push_cases [] zero v x h = inr (refl, (cc))
push_cases [] (suc i) v x h = absurd (cc)
push_cases (y ∷ ys) zero v x h = inl h
push_cases (y ∷ ys) (suc i) v x h = ⊎_elim inl (λ e. inr (ap suc e.0, e.1)) (push_cases ys i v x h)

-- an item that is there is before the end
pub before_end : {A : Type 0} → (xs : List A) (i : ℕ) (x : A) → slice_get xs i ≡ Some x → i ≢ length xs
before_end [] i x h e = cc
before_end (y ∷ ys) zero x h e = cc
before_end (y ∷ ys) (suc i) x h e = before_end ys i x h (cc)

pub item_at : {A : Type 0} → (xs : List A) (i : ℕ) → i < length xs → (x : A) × (slice_get xs i ≡ Some x)
item_at [] i h = absurd (omega arith)
item_at (x ∷ xs) zero h = (x, refl)
item_at (x ∷ xs) (suc i) h = item_at xs i (omega arith)

pub mapped : {A B : Type 0} → (f : A → B) (xs : List A) (i : ℕ) (x : A) → slice_get xs i ≡ Some x → slice_get (map f xs) i ≡ Some (f x)
mapped f [] i x h = absurd (cc)
mapped f (y ∷ ys) zero x h = let e : y ≡ x = cc in ap (λ z. Some (f z)) e
mapped f (y ∷ ys) (suc i) x h = mapped f ys i x h

pub mapped_back : {A B : Type 0} → (f : A → B) (xs : List A) (i : ℕ) (y : B) → slice_get (map f xs) i ≡ Some y → (x : A) × (slice_get xs i ≡ Some x) × (f x ≡ y)
mapped_back f [] i y h = absurd (cc)
mapped_back f (x ∷ xs) zero y h = (x, refl, (cc))
mapped_back f (x ∷ xs) (suc i) y h = mapped_back f xs i y h

pub map_append : {A B : Type 0} → (f : A → B) (xs ys : List A) → map f (xs ++ ys) ≡ map f xs ++ map f ys
map_append f [] ys = refl
map_append f (x ∷ xs) ys = ap (λ z. f x ∷ z) (map_append f xs ys)

edit_later : {A : Type 0} → (x : A) (xs : List A) (i : ℕ) (f : A → A) (o : Option A) → edit_row (x ∷ xs) (suc i) f o ≡ x ∷ edit_row xs i f o
edit_later x xs i f None = refl
edit_later x xs i f (Some y) = refl

-- a map of a list with one item changed
pub map_edit : {A B : Type 0} → (h : A → B) (f : A → A) (g : B → B) (xs : List A) (i : ℕ) → ((x : A) → slice_get xs i ≡ Some x → h (f x) ≡ g (h x)) → map h (edit xs i f) ≡ edit (map h xs) i g
map_edit h f g [] i e = refl
map_edit h f g (x ∷ xs) zero e = ap (λ z. z ∷ map h xs) (e x refl)
map_edit h f g (x ∷ xs) (suc i) e =
    ap (map h) (edit_later x xs i f (slice_get xs i))
    ∙ (ap (λ z. h x ∷ z) (map_edit h f g xs i e) ∙ sym (edit_later (h x) (map h xs) i g (slice_get (map h xs) i)))

-- a change that h cannot tell
pub map_edit_kept : {A B : Type 0} → (h : A → B) (f : A → A) (xs : List A) (i : ℕ) → ((x : A) → slice_get xs i ≡ Some x → h (f x) ≡ h x) → map h (edit xs i f) ≡ map h xs
map_edit_kept h f [] i e = refl
map_edit_kept h f (x ∷ xs) zero e = ap (λ z. z ∷ map h xs) (e x refl)
map_edit_kept h f (x ∷ xs) (suc i) e = ap (map h) (edit_later x xs i f (slice_get xs i)) ∙ ap (λ z. h x ∷ z) (map_edit_kept h f xs i e)
