-- A place that leaves its slot: the rows, and the chains.
use Rattle.std.proofs.Common.{◌≡◌, ◌≢◌, inr, ⊎_elim, sym, ◌∙◌, ap, subst, refl, ℕ, ◌<◌, List, ◌∷◌, ◌++◌, length, map, Option, Some, None, slice_get}
use Rattle.std.proofs.lemmas.Option.{slice_get_within}
use Rattle.node_arena.specs.declared.links.PlaceRow.{PlaceRow}
use Rattle.node_arena.specs.Rows.{Rows, rows_of, edit, owned_row, before_row, after_row, left_written, bared, detached_rows, detached_row, HasLeft, HasRight, HasEnds, HasEnds_of}
use Rattle.node_arena.specs.Lists.{Among, Distinct, head_or, last_or}
use Rattle.node_arena.specs.Forest.{Chain, place_of, owned_by}
use Rattle.node_arena.proofs.Edits.{edit_away}
use Rattle.node_arena.proofs.Pushes.{map_edit, map_edit_kept}
use Rattle.node_arena.proofs.Splits.{IsGap, gap_new, gap_apart}
use Rattle.node_arena.proofs.Linking.{chain_frame, chain_row, chain_parts, chain_whole, last_among, head_among, among_front, among_back, IsRelinked, sides_kept}
use Rattle.node_arena.proofs.Gaps.{left_places, right_places, relinks, relinked, two_sides, left_slots, left_is, right_is, left_told, right_told}

abbrev bare_places : List PlaceRow → ℕ → List PlaceRow
bare_places ps p = edit (edit (edit ps p (owned_row None)) p (before_row None)) p (after_row None)

bare_away : (ps : List PlaceRow) (p y : ℕ) → y ≢ p → slice_get (bare_places ps p) y ≡ slice_get ps y
bare_away ps p y n =
    edit_away (edit (edit ps p (owned_row None)) p (before_row None)) p y (after_row None) n
    ∙ (edit_away (edit ps p (owned_row None)) p y (before_row None) n ∙ edit_away ps p y (owned_row None) n)

bare_told : (ps : List PlaceRow) (p : ℕ) → map place_of (bare_places ps p) ≡ edit (map place_of ps) p (owned_by None)
bare_told ps p =
    map_edit_kept place_of (after_row None) (edit (edit ps p (owned_row None)) p (before_row None)) p (λ x e. refl)
    ∙ (map_edit_kept place_of (before_row None) (edit ps p (owned_row None)) p (λ x e. refl)
    ∙ map_edit place_of (owned_row None) (owned_by None) ps p (λ x e. refl))

abbrev pub left_row_places : List PlaceRow → ℕ → PlaceRow → List PlaceRow
left_row_places ps p r = bare_places (relinks ps r.prev r.next r.next r.prev) p

pub detached_is : (t : Rows) (s p : ℕ) (r : PlaceRow) → slice_get t.places p ≡ Some r
    → detached_rows t s p ≡ rows_of t.nodes (left_slots t.slots s r.prev r.next) (left_row_places t.places p r)
detached_is t s p r g =
    ap (detached_row t s p) g
    ∙ (ap (λ (z : Rows). bared z p) (right_is (left_written t s r.prev r.next) r.next r.prev)
    ∙ ap (λ (z : Rows). bared (rows_of z.nodes z.slots (right_places z.places r.next r.prev)) p) (left_is t s r.prev r.next))

pub record IsLeaving (ps : List PlaceRow) (s p : ℕ) (r : PlaceRow) (xs ys : List ℕ) : Type 0 where
  pub gap : IsGap ys xs p
  pub row : slice_get ps p ≡ Some r
  pub distinct : Distinct xs
  pub chain : Chain ps s None xs None

-- what stands beside the place, by its row
pub leaving_ends : (ps : List PlaceRow) (s p : ℕ) (r : PlaceRow) (xs ys : List ℕ) → (w : IsLeaving ps s p r xs ys) → (r.prev ≡ last_or w.gap.front None) × (r.next ≡ head_or w.gap.back None)
leaving_ends ps s p r xs ys w =
    let us = w.gap.front in
    let vs = w.gap.back in
    let parts = chain_parts ps s us (p ∷ vs) None None (subst (λ z. Chain ps s None z None) w.gap.big_is w.chain) in
    let both = sym w.row ∙ parts.1.0.is in
    let same : r ≡ record { owner = Some s; node = parts.1.0.node; next = head_or vs None; prev = last_or us None } = cc in
    (ap (λ (z : PlaceRow). z.prev) same, ap (λ (z : PlaceRow). z.next) same)

leaving_sides : (ps : List PlaceRow) (s p : ℕ) (r : PlaceRow) (xs ys : List ℕ) → IsLeaving ps s p r xs ys → IsRelinked ps (left_row_places ps p r) r.prev r.next p r.next r.prev
leaving_sides ps s p r xs ys w =
    let us = w.gap.front in
    let vs = w.gap.back in
    let e = leaving_ends ps s p r xs ys w in
    let d = gap_apart ys xs p w.gap w.distinct in
    let d' = subst Distinct w.gap.small_is d.0 in
    let away : Among p (us ++ vs) → ⊥ = λ m. d.1 (subst (Among p) (sym w.gap.small_is) m) in
    let k = relinked ps r.prev r.next p r.next r.prev (two_sides us vs r.prev r.next e.0 e.1 d') in
    let ps' = relinks ps r.prev r.next r.next r.prev in
    record {
      left = λ a q h g.
          bare_away ps' p a (λ f. away (subst (λ z. Among z (us ++ vs)) f (among_front us vs a (⊎_elim (λ z. absurd (cc)) (λ z. z) (last_among us None a (sym e.0 ∙ h)))))) ∙ k.left a q h g;
      right = λ b q h g. bare_away ps' p b (λ f. away (subst (λ z. Among z (us ++ vs)) f (among_back us vs b (head_among vs b (sym e.1 ∙ h))))) ∙ k.right b q h g;
      others = λ y n h g. bare_away ps' p y n ∙ k.others y n h g;
    }

pub left_chain : (ps : List PlaceRow) (s p : ℕ) (r : PlaceRow) (xs ys : List ℕ) → IsLeaving ps s p r xs ys → Chain (left_row_places ps p r) s None ys None
left_chain ps s p r xs ys w =
    let us = w.gap.front in
    let vs = w.gap.back in
    let ps' = left_row_places ps p r in
    let e = leaving_ends ps s p r xs ys w in
    let d = gap_apart ys xs p w.gap w.distinct in
    let parts = chain_parts ps s us (p ∷ vs) None None (subst (λ z. Chain ps s None z None) w.gap.big_is w.chain) in
    let sides = sides_kept ps ps' s p us vs r.prev r.next r.next r.prev (Some p) (Some p) (leaving_sides ps s p r xs ys w) e.0 e.1 (subst Distinct w.gap.small_is d.0)
    (λ m. d.1 (subst (Among p) (sym w.gap.small_is) m)) parts.0 parts.1.1 in
    subst (λ z. Chain ps' s None z None) (sym w.gap.small_is)
    (chain_whole ps' s us vs None None (subst (Chain ps' s None us) e.1 sides.0) (subst (λ z. Chain ps' s z vs None) e.0 sides.1))

-- the neighbours are places of the slot
pub prev_in_slot : (ps : List PlaceRow) (s p : ℕ) (r : PlaceRow) (xs ys : List ℕ) → IsLeaving ps s p r xs ys → (y : ℕ) → r.prev ≡ Some y → Among y xs
prev_in_slot ps s p r xs ys w y e =
    let ends = leaving_ends ps s p r xs ys w in
    subst (Among y) (sym w.gap.big_is) (among_front w.gap.front (p ∷ w.gap.back) y (⊎_elim (λ f. absurd (cc)) (λ f. f) (last_among w.gap.front None y (sym ends.0 ∙ e))))

pub next_in_slot : (ps : List PlaceRow) (s p : ℕ) (r : PlaceRow) (xs ys : List ℕ) → IsLeaving ps s p r xs ys → (y : ℕ) → r.next ≡ Some y → Among y xs
next_in_slot ps s p r xs ys w y e =
    let ends = leaving_ends ps s p r xs ys w in
    subst (Among y) (sym w.gap.big_is) (among_back w.gap.front (p ∷ w.gap.back) y (inr (head_among w.gap.back y (sym ends.1 ∙ e))))

-- another slot's chain stays
pub left_other : (ps : List PlaceRow) (s p : ℕ) (r : PlaceRow) (xs ys : List ℕ) → IsLeaving ps s p r xs ys → (i : ℕ) (zs : List ℕ) → i ≢ s → Chain ps i None zs None
    → Chain (left_row_places ps p r) i None zs None
left_other ps s p r xs ys w i zs n c =
    chain_frame ps (left_row_places ps p r) i zs None None
    (λ y m.
    let row = chain_row ps i zs None None y c m in
    let apart : Among y xs → ⊥ = (λ k.
    let other = chain_row ps s xs None None y w.chain k in
    let both = sym row.1 ∙ other.1 in
    let same : row.0 ≡ other.0 = cc in
    let owners : Some i ≡ Some s = sym row.2 ∙ (ap (λ (z : PlaceRow). z.owner) same ∙ other.2) in
    n (cc)) in
    (leaving_sides ps s p r xs ys w).others y
    (λ e. apart (subst (λ z. Among z xs) (sym e) (gap_new ys xs p w.gap))) (λ e. apart (prev_in_slot ps s p r xs ys w y e)) (λ e. apart (next_in_slot ps s p r xs ys w y e))) c

pub left_row_told : (ps : List PlaceRow) (p : ℕ) (r : PlaceRow) → map place_of (left_row_places ps p r) ≡ edit (map place_of ps) p (owned_by None)
left_row_told ps p r =
    bare_told (relinks ps r.prev r.next r.next r.prev) p
    ∙ ap (λ z. edit z p (owned_by None)) (right_told (left_places ps r.prev r.next) r.next r.prev ∙ left_told ps r.prev r.next)

-- The neighbours have rows.
left_end : (t : Rows) (s : ℕ) (o : Option ℕ) → s < length t.slots → ((a : ℕ) → o ≡ Some a → a < length t.places) → HasLeft t s o
left_end t s None h f = h
left_end t s (Some a) h f = f a refl

right_end : (t : Rows) (o : Option ℕ) → ((a : ℕ) → o ≡ Some a → a < length t.places) → HasRight t o
right_end t None f = tt
right_end t (Some a) f = f a refl

chain_within : (ps : List PlaceRow) (s : ℕ) (xs : List ℕ) (y : ℕ) → Chain ps s None xs None → Among y xs → y < length ps
chain_within ps s xs y c m = let row = chain_row ps s xs None None y c m in slice_get_within ps y row.0 row.1

pub has_left : (t : Rows) (s p : ℕ) (r : PlaceRow) (xs ys : List ℕ) → IsLeaving t.places s p r xs ys → s < length t.slots → HasLeft t s r.prev
has_left t s p r xs ys w h = left_end t s r.prev h (λ a e. chain_within t.places s xs a w.chain (prev_in_slot t.places s p r xs ys w a e))

pub has_right : (t : Rows) (s p : ℕ) (r : PlaceRow) (xs ys : List ℕ) → IsLeaving t.places s p r xs ys → HasRight t r.next
has_right t s p r xs ys w = right_end t r.next (λ a e. chain_within t.places s xs a w.chain (next_in_slot t.places s p r xs ys w a e))

pub has_ends : (t : Rows) (s p : ℕ) (r : PlaceRow) (xs ys : List ℕ) → IsLeaving t.places s p r xs ys → s < length t.slots → HasEnds t s p
has_ends t s p r xs ys w h = subst (HasEnds_of t s) (sym w.row) (has_left t s p r xs ys w h, has_right t s p r xs ys w)

pub has_head : (t : Rows) (s : ℕ) (xs : List ℕ) → Chain t.places s None xs None → HasRight t (head_or xs None)
has_head t s xs c = right_end t (head_or xs None) (λ a e. chain_within t.places s xs a c (head_among xs a e))
