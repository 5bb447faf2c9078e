-- Chains of places: their parts, and what a change of the links does to them.
use Rattle.std.proofs.Common.{◌≡◌, ◌≢◌, ◌⊎◌, inl, inr, ⊎_elim, sym, ◌∙◌, ap, subst, refl, ℕ, List, [], ◌∷◌, ◌++◌, Option, Some, None, slice_get}
use Rattle.node_arena.specs.declared.links.PlaceRow.{PlaceRow}
use Rattle.node_arena.specs.Lists.{Among, Distinct, head_or, last_or}
use Rattle.node_arena.specs.Forest.{IsLinked, Chain}

abbrev pub row_of_link : ℕ → Option ℕ → Option ℕ → Option ℕ → PlaceRow
row_of_link s prev node next = record { owner = Some s; node = node; next = next; prev = prev }

-- the rows of its places are all that a chain rests on
pub chain_frame : (ps ps' : List PlaceRow) (s : ℕ) (xs : List ℕ) (prev next : Option ℕ) → ((x : ℕ) → Among x xs → slice_get ps' x ≡ slice_get ps x)
    → Chain ps s prev xs next → Chain ps' s prev xs next
chain_frame ps ps' s [] prev next same c = tt
chain_frame ps ps' s (x ∷ xs) prev next same c =
    (record { node = c.0.node; is = same x (inl refl) ∙ c.0.is }, chain_frame ps ps' s xs (Some x) next (λ y m. same y (inr m)) c.1)

-- a place of a chain has a row of its slot
pub chain_row : (ps : List PlaceRow) (s : ℕ) (xs : List ℕ) (prev next : Option ℕ) (x : ℕ) → Chain ps s prev xs next → Among x xs
    → (r : PlaceRow) × (slice_get ps x ≡ Some r) × (r.owner ≡ Some s)
chain_row ps s [] prev next x c m = absurd m
chain_row ps s (y ∷ ys) prev next x c m =
    ⊎_elim (λ e. (row_of_link s prev c.0.node (head_or ys next), ap (slice_get ps) e ∙ c.0.is, refl)) (λ k. chain_row ps s ys (Some y) next x c.1 k) m

head_append : (us vs : List ℕ) (o : Option ℕ) → head_or (us ++ vs) o ≡ head_or us (head_or vs o)
head_append [] vs o = refl
head_append (u ∷ us) vs o = refl

pub chain_parts : (ps : List PlaceRow) (s : ℕ) (us vs : List ℕ) (prev next : Option ℕ) → Chain ps s prev (us ++ vs) next
    → Chain ps s prev us (head_or vs next) × Chain ps s (last_or us prev) vs next
chain_parts ps s [] vs prev next c = (tt, c)
chain_parts ps s (u ∷ us) vs prev next c =
    let k = chain_parts ps s us vs (Some u) next c.1 in
    ((subst (IsLinked ps s prev u) (head_append us vs next) c.0, k.0), k.1)

pub chain_whole : (ps : List PlaceRow) (s : ℕ) (us vs : List ℕ) (prev next : Option ℕ) → Chain ps s prev us (head_or vs next) → Chain ps s (last_or us prev) vs next
    → Chain ps s prev (us ++ vs) next
chain_whole ps s [] vs prev next a b = b
chain_whole ps s (u ∷ us) vs prev next a b =
    (subst (IsLinked ps s prev u) (sym (head_append us vs next)) a.0, chain_whole ps s us vs (Some u) next a.1 b)

pub last_among : (us : List ℕ) (o : Option ℕ) (x : ℕ) → last_or us o ≡ Some x → (o ≡ Some x) ⊎ Among x us
last_among [] o x e = inl e
last_among (u ∷ us) o x e = ⊎_elim (λ d. let h : u ≡ x = cc in inr (inl (sym h))) (λ k. inr (inr k)) (last_among us (Some u) x e)

pub head_among : (vs : List ℕ) (x : ℕ) → head_or vs None ≡ Some x → Among x vs
head_among [] x e = absurd (cc)
head_among (v ∷ vs) x e = let h : v ≡ x = cc in inl (sym h)

-- the links on both sides of a gap are other ones: what the rows are then
pub record IsRelinked (ps ps' : List PlaceRow) (prev next : Option ℕ) (x : ℕ) (to_next to_prev : Option ℕ) : Type 0 where
  pub left : (a : ℕ) (r : PlaceRow) → prev ≡ Some a → slice_get ps a ≡ Some r → slice_get ps' a ≡ Some (record r { next = to_next })
  pub right : (b : ℕ) (r : PlaceRow) → next ≡ Some b → slice_get ps b ≡ Some r → slice_get ps' b ≡ Some (record r { prev = to_prev })
  pub others : (y : ℕ) → y ≢ x → prev ≢ Some y → next ≢ Some y → slice_get ps' y ≡ slice_get ps y

-- the front of a gap
front_kept : (ps ps' : List PlaceRow) (s : ℕ) (us : List ℕ) (o n m : Option ℕ) → ((a : ℕ) (r : PlaceRow) → last_or us o ≡ Some a → slice_get ps a ≡ Some r → slice_get ps' a ≡ Some (record r { next = m }))
    → ((y : ℕ) → Among y us → last_or us o ≢ Some y → slice_get ps' y ≡ slice_get ps y) → Distinct us → Chain ps s o us n → Chain ps' s o us m
front_kept ps ps' s [] o n m last others d c = tt
front_kept ps ps' s (u ∷ []) o n m last others d c = (record { node = c.0.node; is = last u (row_of_link s o c.0.node n) refl c.0.is }, tt)
front_kept ps ps' s (u ∷ v ∷ us) o n m last others d c =
    let away : last_or us (Some v) ≢ Some u = (λ e. d.0 (⊎_elim (λ k. let h : v ≡ u = cc in inl (sym h)) (λ k. inr k) (last_among us (Some v) u e))) in
    (record { node = c.0.node; is = others u (inl refl) away ∙ c.0.is }, front_kept ps ps' s (v ∷ us) (Some u) n m last (λ y k. others y (inr k)) d.1 c.1)

-- the back of a gap
back_kept : (ps ps' : List PlaceRow) (s : ℕ) (vs : List ℕ) (o m : Option ℕ) → ((b : ℕ) (r : PlaceRow) → head_or vs None ≡ Some b → slice_get ps b ≡ Some r → slice_get ps' b ≡ Some (record r { prev = m }))
    → ((y : ℕ) → Among y vs → head_or vs None ≢ Some y → slice_get ps' y ≡ slice_get ps y) → Distinct vs → Chain ps s o vs None → Chain ps' s m vs None
back_kept ps ps' s [] o m head others d c = tt
back_kept ps ps' s (v ∷ vs) o m head others d c = (
  record { node = c.0.node; is = head v (row_of_link s o c.0.node (head_or vs None)) refl c.0.is },
  chain_frame ps ps' s vs (Some v) None (λ y k. others y (inr k) (λ e. let h : v ≡ y = cc in d.0 (subst (λ z. Among z vs) (sym h) k))) c.1,
)

pub among_front : (us vs : List ℕ) (x : ℕ) → Among x us → Among x (us ++ vs)
among_front [] vs x m = absurd m
among_front (u ∷ us) vs x m = ⊎_elim inl (λ k. inr (among_front us vs x k)) m

distinct_front : (us vs : List ℕ) → Distinct (us ++ vs) → Distinct us
distinct_front [] vs d = tt
distinct_front (u ∷ us) vs d = (λ m. d.0 (among_front us vs u m), distinct_front us vs d.1)

pub among_back : (us vs : List ℕ) (x : ℕ) → Among x vs → Among x (us ++ vs)
among_back [] vs x m = m
among_back (u ∷ us) vs x m = inr (among_back us vs x m)

distinct_back : (us vs : List ℕ) → Distinct (us ++ vs) → Distinct vs
distinct_back [] vs d = d
distinct_back (u ∷ us) vs d = distinct_back us vs d.1

pub parts_apart : (us vs : List ℕ) (x : ℕ) → Distinct (us ++ vs) → Among x us → Among x vs → ⊥
parts_apart [] vs x d m k = m
parts_apart (u ∷ us) vs x d m k = ⊎_elim (λ e. d.0 (subst (λ z. Among z (us ++ vs)) e (among_back us vs x k))) (λ h. parts_apart us vs x d.1 h k) m

-- both sides of a gap
pub sides_kept : (ps ps' : List PlaceRow) (s x : ℕ) (us vs : List ℕ) (prev next to_next to_prev n m : Option ℕ) → IsRelinked ps ps' prev next x to_next to_prev
    → prev ≡ last_or us None → next ≡ head_or vs None → Distinct (us ++ vs) → (Among x (us ++ vs) → ⊥) → Chain ps s None us n → Chain ps s m vs None
    → Chain ps' s None us to_next × Chain ps' s to_prev vs None
sides_kept ps ps' s x us vs prev next to_next to_prev n m w ep en d away a b = (
  front_kept ps ps' s us None n to_next
      (λ y r e g. w.left y r (ep ∙ e) g)
      (λ y k e. w.others y (λ h. away (subst (λ z. Among z (us ++ vs)) h (among_front us vs y k))) (λ h. e (sym ep ∙ h)) (λ h. parts_apart us vs y d k (head_among vs y (sym en ∙ h))))
      (distinct_front us vs d) a,
  back_kept ps ps' s vs m to_prev
      (λ y r e g. w.right y r (en ∙ e) g)
      (λ y k e. w.others y (λ h. away (subst (λ z. Among z (us ++ vs)) h (among_back us vs y k)))
      (λ h. ⊎_elim (λ f. cc) (λ f. parts_apart us vs y d f k) (last_among us None y (sym ep ∙ h))) (λ h. e (sym en ∙ h)))
      (distinct_back us vs d) b,
)

-- the row at the end of a chain, and at its head
pub chain_last : (ps : List PlaceRow) (s : ℕ) (us : List ℕ) (o n : Option ℕ) (p : ℕ) (r : PlaceRow) → ((z : Option ℕ) → last_or us z ≡ Some p) → Chain ps s o us n → slice_get ps p ≡ Some r → r.next ≡ n
chain_last ps s [] o n p r last c g = let none = last None in absurd (cc)
chain_last ps s (u ∷ []) o n p r last c g =
    let e : u ≡ p = let k = last None in cc in
    let both = sym g ∙ (ap (slice_get ps) (sym e) ∙ c.0.is) in
    let same : r ≡ row_of_link s o c.0.node n = cc in
    ap (λ (z : PlaceRow). z.next) same
chain_last ps s (u ∷ v ∷ us) o n p r last c g = chain_last ps s (v ∷ us) (Some u) n p r (λ z. last z) c.1 g

pub chain_head : (ps : List PlaceRow) (s : ℕ) (vs : List ℕ) (o : Option ℕ) (p : ℕ) (r : PlaceRow) → head_or vs None ≡ Some p → Chain ps s o vs None → slice_get ps p ≡ Some r → r.prev ≡ o
chain_head ps s [] o p r e c g = absurd (cc)
chain_head ps s (v ∷ vs) o p r e c g =
    let k : v ≡ p = cc in
    let both = sym g ∙ (ap (slice_get ps) (sym k) ∙ c.0.is) in
    let same : r ≡ row_of_link s o c.0.node (head_or vs None) = cc in
    ap (λ (z : PlaceRow). z.prev) same
