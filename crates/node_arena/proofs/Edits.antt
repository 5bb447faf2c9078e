-- Reads of a list after one item is changed, and the lengths that stay.
use Rattle.std.proofs.Common.{◌≡◌, ◌≢◌, ◌⊎◌, inl, inr, ⊎_elim, sym, ◌∙◌, ap, subst, refl, ℕ, zero, suc, ◌+◌, ◌<◌, List, [], ◌∷◌, length, Option, Some, None, slice_get, slice_set, arith, length-append, length-set}
use Rattle.std.proofs.lemmas.Bool.Decides.{eqb_tells}
use Rattle.node_arena.specs.declared.links.Link.{Link}
use Rattle.node_arena.specs.declared.links.Link.TheVariants as link
use Rattle.node_arena.specs.Rows.{Rows, edit, edit_row, written, with_place, between_row, left_written, right_written, linked_rows, HasLeft, HasRight}

-- two numbers are the same, or they differ
pub same_or_not : (a b : ℕ) → (a ≡ b) ⊎ (a ≢ b)
same_or_not a b = ⊎_elim (λ e. inl e.1) (λ e. inr e.1) (eqb_tells a b)

pub set_here : {A : Type 0} → (xs : List A) (i : ℕ) (v old : A) → slice_get xs i ≡ Some old → slice_get (slice_set xs i v) i ≡ Some v
set_here [] i v old h = absurd (cc)
set_here (x ∷ xs) zero v old h = refl
set_here (x ∷ xs) (suc i) v old h = set_here xs i v old h

pub set_away : {A : Type 0} → (xs : List A) (i k : ℕ) (v : A) → k ≢ i → slice_get (slice_set xs i v) k ≡ slice_get xs k
set_away [] i k v n = refl
set_away (x ∷ xs) zero zero v n = absurd (n refl)
set_away (x ∷ xs) zero (suc k) v n = refl
set_away (x ∷ xs) (suc i) zero v n = refl
set_away (x ∷ xs) (suc i) (suc k) v n = set_away xs i k v (λ e. n (ap suc e))

edit_length : {A : Type 0} → (xs : List A) (i : ℕ) (f : A → A) (o : Option A) → length (edit_row xs i f o) ≡ length xs
edit_length xs i f None = refl
edit_length xs i f (Some x) = length-set xs i (f x)

pub length_edit : {A : Type 0} → (xs : List A) (i : ℕ) (f : A → A) → length (edit xs i f) ≡ length xs
length_edit xs i f = edit_length xs i f (slice_get xs i)

-- the changed item
pub edit_here : {A : Type 0} → (xs : List A) (i : ℕ) (f : A → A) (x : A) → slice_get xs i ≡ Some x → slice_get (edit xs i f) i ≡ Some (f x)
edit_here xs i f x h = ap (λ o. slice_get (edit_row xs i f o) i) h ∙ set_here xs i (f x) x h

away_row : {A : Type 0} → (xs : List A) (i k : ℕ) (f : A → A) (o : Option A) → k ≢ i → slice_get (edit_row xs i f o) k ≡ slice_get xs k
away_row xs i k f None n = refl
away_row xs i k f (Some x) n = set_away xs i k (f x) n

-- another item
pub edit_away : {A : Type 0} → (xs : List A) (i k : ℕ) (f : A → A) → k ≢ i → slice_get (edit xs i f) k ≡ slice_get xs k
edit_away xs i k f n = away_row xs i k f (slice_get xs i) n

-- what an item was, and how it is now
pub record Was (A : Type 0) (xs : List A) (i : ℕ) (f : A → A) (k : ℕ) (y : A) : Type 0 where
  pub old : A
  pub is : slice_get xs k ≡ Some old
  pub how : ((k ≡ i) × (y ≡ f old)) ⊎ ((k ≢ i) × (y ≡ old))

was_here : {A : Type 0} → (xs : List A) (i : ℕ) (f : A → A) (k : ℕ) (y : A) (o : Option A) → slice_get xs i ≡ o → k ≡ i → slice_get (edit xs i f) k ≡ Some y → Was A xs i f k y
was_here xs i f k y None h e g =
    let same : edit xs i f ≡ xs = ap (edit_row xs i f) h in
    let none : None ≡ Some y = sym h ∙ (ap (slice_get xs) (sym e) ∙ (ap (λ z. slice_get z k) (sym same) ∙ g)) in
    absurd (cc)
was_here xs i f k y (Some x) h e g =
    let at = sym (edit_here xs i f x h) ∙ (ap (slice_get (edit xs i f)) (sym e) ∙ g) in
    let y_is : y ≡ f x = cc in
    record { old = x; is = ap (slice_get xs) e ∙ h; how = inl (e, y_is) }

pub was : {A : Type 0} → (xs : List A) (i : ℕ) (f : A → A) (k : ℕ) (y : A) → slice_get (edit xs i f) k ≡ Some y → Was A xs i f k y
was xs i f k y g =
    ⊎_elim (λ e. was_here xs i f k y (slice_get xs i) refl e g)
    (λ n. record { old = y; is = sym (edit_away xs i k f n) ∙ g; how = inr (n, refl) }) (same_or_not k i)

-- what an item is now
pub record Becomes (A : Type 0) (xs : List A) (i : ℕ) (f : A → A) (k : ℕ) (x : A) : Type 0 where
  pub new : A
  pub is : slice_get (edit xs i f) k ≡ Some new
  pub how : ((k ≡ i) × (new ≡ f x)) ⊎ ((k ≢ i) × (new ≡ x))

pub becomes : {A : Type 0} → (xs : List A) (i : ℕ) (f : A → A) (k : ℕ) (x : A) → slice_get xs k ≡ Some x → Becomes A xs i f k x
becomes xs i f k x g =
    ⊎_elim
    (λ e. record { new = f x; is = ap (slice_get (edit xs i f)) e ∙ edit_here xs i f x (ap (slice_get xs) (sym e) ∙ g); how = inl (e, refl) })
    (λ n. record { new = x; is = edit_away xs i k f n ∙ g; how = inr (n, refl) }) (same_or_not k i)

-- what the change cannot tell is as it was
pub was_kept : {A B : Type 0} → (xs : List A) (i : ℕ) (f : A → A) (k : ℕ) (y : A) (g : A → B) → ((x : A) → g (f x) ≡ g x) → slice_get (edit xs i f) k ≡ Some y
    → (old : A) × (slice_get xs k ≡ Some old) × (g y ≡ g old)
was_kept xs i f k y g e h = let w = was xs i f k y h in (w.old, w.is, ⊎_elim (λ d. ap g d.1 ∙ e w.old) (λ d. ap g d.1) w.how)

pub becomes_kept : {A B : Type 0} → (xs : List A) (i : ℕ) (f : A → A) (k : ℕ) (x : A) (g : A → B) → ((z : A) → g (f z) ≡ g z) → slice_get xs k ≡ Some x
    → (new : A) × (slice_get (edit xs i f) k ≡ Some new) × (g new ≡ g x)
becomes_kept xs i f k x g e h = let w = becomes xs i f k x h in (w.new, w.is, ⊎_elim (λ d. ap g d.1 ∙ e x) (λ d. ap g d.1) w.how)

-- Lengths that writes keep.
pub places_written : (t : Rows) (w : Link) → length (written t w).places ≡ length t.places
places_written t (link.At j to) = refl
places_written t (link.First s to) = refl
places_written t (link.Owner p to) = length_edit t.places p _
places_written t (link.Node p to) = length_edit t.places p _
places_written t (link.Next p to) = length_edit t.places p _
places_written t (link.Prev p to) = length_edit t.places p _

pub places_left : (t : Rows) (s : ℕ) (prev to : Option ℕ) → length (left_written t s prev to).places ≡ length t.places
places_left t s None to = refl
places_left t s (Some a) to = places_written t (link.Next a to)

pub places_right : (t : Rows) (next to : Option ℕ) → length (right_written t next to).places ≡ length t.places
places_right t None to = refl
places_right t (Some b) to = places_written t (link.Prev b to)

pub right_left : (t : Rows) (s : ℕ) (prev to next : Option ℕ) → HasRight t next → HasRight (left_written t s prev to) next
right_left t s prev to None h = tt
right_left t s prev to (Some b) h = let k = places_left t s prev to in omega arith

place_pushed : (t : Rows) (s : ℕ) (prev next : Option ℕ) → length (with_place t s prev next).places ≡ length t.places + 1
place_pushed t s prev next = length-append t.places (between_row s prev next ∷ [])

pub left_pushed : (t : Rows) (s : ℕ) (prev next side : Option ℕ) → HasLeft t s side → HasLeft (with_place t s prev next) s side
left_pushed t s prev next None h = h
left_pushed t s prev next (Some a) h = let k = place_pushed t s prev next in omega arith

right_wider : (t : Rows) (s : ℕ) (prev next side : Option ℕ) → HasRight t side → HasRight (with_place t s prev next) side
right_wider t s prev next None h = tt
right_wider t s prev next (Some b) h = let k = place_pushed t s prev next in omega arith

pub right_pushed : (t : Rows) (s : ℕ) (prev next side to : Option ℕ) → HasRight t side → HasRight (left_written (with_place t s prev next) s prev to) side
right_pushed t s prev next side to h = right_left (with_place t s prev next) s prev to side (right_wider t s prev next side h)

pub places_linked : (t : Rows) (s : ℕ) (prev next : Option ℕ) → length t.places < length (linked_rows t s prev next).places
places_linked t s prev next =
    let q = Some (length t.places) in
    let a = places_right (left_written (with_place t s prev next) s prev q) next q in
    let b = places_left (with_place t s prev next) s prev q in
    let k = place_pushed t s prev next in
    omega arith

left_nodes : (t : Rows) (s : ℕ) (prev to : Option ℕ) → (left_written t s prev to).nodes ≡ t.nodes
left_nodes t s None to = refl
left_nodes t s (Some a) to = refl

right_nodes : (t : Rows) (next to : Option ℕ) → (right_written t next to).nodes ≡ t.nodes
right_nodes t None to = refl
right_nodes t (Some b) to = refl

pub nodes_linked : (t : Rows) (s : ℕ) (prev next : Option ℕ) (j : ℕ) → j < length t.nodes → j < length (linked_rows t s prev next).nodes
nodes_linked t s prev next j h =
    let q = Some (length t.places) in
    let e = right_nodes (left_written (with_place t s prev next) s prev q) next q ∙ left_nodes (with_place t s prev next) s prev q in
    subst (λ z. j < length z) (sym e) h
