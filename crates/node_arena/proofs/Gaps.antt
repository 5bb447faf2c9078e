-- A new place in a gap of a slot, and a place that leaves one: the rows, and the chains.
use Rattle.std.proofs.Common.{◌≡◌, ◌≢◌, ⊎_elim, sym, ◌∙◌, ap, subst, refl, ℕ, List, [], ◌∷◌, ◌++◌, length, map, Option, Some, None, slice_get}
use Rattle.node_arena.specs.declared.links.SlotRow.{SlotRow}
use Rattle.node_arena.specs.declared.links.PlaceRow.{PlaceRow}
use Rattle.node_arena.specs.Rows.{Rows, rows_of, edit, starting, before_row, after_row, between_row, with_place, left_written, right_written, linked_rows}
use Rattle.node_arena.specs.Lists.{Among, Distinct, head_or, last_or}
use Rattle.node_arena.specs.Forest.{Chain, place_of}
use Rattle.node_arena.proofs.Edits.{edit_here, edit_away}
use Rattle.node_arena.proofs.Pushes.{push_old, push_new, push_away, before_end, map_append, map_edit_kept}
use Rattle.node_arena.proofs.Splits.{IsGap}
use Rattle.node_arena.proofs.Linking.{chain_frame, chain_row, chain_parts, chain_whole, last_among, head_among, parts_apart, among_front, among_back, IsRelinked, sides_kept}

-- The two writes beside a gap, on the rows of slots and of places.
abbrev pub left_places : List PlaceRow → Option ℕ → Option ℕ → List PlaceRow
left_places ps None to = ps
left_places ps (Some a) to = edit ps a (before_row to)

abbrev pub right_places : List PlaceRow → Option ℕ → Option ℕ → List PlaceRow
right_places ps None to = ps
right_places ps (Some b) to = edit ps b (after_row to)

abbrev pub left_slots : List SlotRow → ℕ → Option ℕ → Option ℕ → List SlotRow
left_slots ss s None to = edit ss s (starting to)
left_slots ss s (Some a) to = ss

pub left_is : (t : Rows) (s : ℕ) (prev to : Option ℕ) → left_written t s prev to ≡ rows_of t.nodes (left_slots t.slots s prev to) (left_places t.places prev to)
left_is t s None to = refl
left_is t s (Some a) to = refl

pub right_is : (t : Rows) (next to : Option ℕ) → right_written t next to ≡ rows_of t.nodes t.slots (right_places t.places next to)
right_is t None to = refl
right_is t (Some b) to = refl

left_here : (ps : List PlaceRow) (prev to : Option ℕ) (a : ℕ) (r : PlaceRow) → prev ≡ Some a → slice_get ps a ≡ Some r → slice_get (left_places ps prev to) a ≡ Some (before_row to r)
left_here ps prev to a r e g = ap (λ z. slice_get (left_places ps z to) a) e ∙ edit_here ps a (before_row to) r g

left_away : (ps : List PlaceRow) (prev to : Option ℕ) (y : ℕ) → prev ≢ Some y → slice_get (left_places ps prev to) y ≡ slice_get ps y
left_away ps None to y n = refl
left_away ps (Some a) to y n = edit_away ps a y (before_row to) (λ e. n (ap Some (sym e)))

right_here : (ps : List PlaceRow) (next to : Option ℕ) (b : ℕ) (r : PlaceRow) → next ≡ Some b → slice_get ps b ≡ Some r → slice_get (right_places ps next to) b ≡ Some (after_row to r)
right_here ps next to b r e g = ap (λ z. slice_get (right_places ps z to) b) e ∙ edit_here ps b (after_row to) r g

right_away : (ps : List PlaceRow) (next to : Option ℕ) (y : ℕ) → next ≢ Some y → slice_get (right_places ps next to) y ≡ slice_get ps y
right_away ps None to y n = refl
right_away ps (Some b) to y n = edit_away ps b y (after_row to) (λ e. n (ap Some (sym e)))

pub left_told : (ps : List PlaceRow) (prev to : Option ℕ) → map place_of (left_places ps prev to) ≡ map place_of ps
left_told ps None to = refl
left_told ps (Some a) to = map_edit_kept place_of (before_row to) ps a (λ x e. refl)

pub right_told : (ps : List PlaceRow) (next to : Option ℕ) → map place_of (right_places ps next to) ≡ map place_of ps
right_told ps None to = refl
right_told ps (Some b) to = map_edit_kept place_of (after_row to) ps b (λ x e. refl)

abbrev pub relinks : List PlaceRow → Option ℕ → Option ℕ → Option ℕ → Option ℕ → List PlaceRow
relinks ps prev next to_next to_prev = right_places (left_places ps prev to_next) next to_prev

pub relinked : (ps : List PlaceRow) (prev next : Option ℕ) (x : ℕ) (to_next to_prev : Option ℕ) → ((y : ℕ) → prev ≡ Some y → next ≡ Some y → ⊥)
    → IsRelinked ps (relinks ps prev next to_next to_prev) prev next x to_next to_prev
relinked ps prev next x to_next to_prev two = record {
  left = λ a r e g. right_away (left_places ps prev to_next) next to_prev a (two a e) ∙ left_here ps prev to_next a r e g;
  right = λ b r e g. right_here (left_places ps prev to_next) next to_prev b r e (left_away ps prev to_next b (λ h. two b h e) ∙ g);
  others = λ y n p q. right_away (left_places ps prev to_next) next to_prev y q ∙ left_away ps prev to_next y p;
}

-- the neighbours of a gap are two
pub two_sides : (us vs : List ℕ) (prev next : Option ℕ) → prev ≡ last_or us None → next ≡ head_or vs None → Distinct (us ++ vs) → (y : ℕ) → prev ≡ Some y → next ≡ Some y → ⊥
two_sides us vs prev next ep en d y e h = ⊎_elim (λ f. cc) (λ f. parts_apart us vs y d f (head_among vs y (sym en ∙ h))) (last_among us None y (sym ep ∙ e))

-- A new place.
abbrev pub grown_places : List PlaceRow → ℕ → Option ℕ → Option ℕ → List PlaceRow
grown_places ps s prev next = relinks (ps ++ between_row s prev next ∷ []) prev next (Some (length ps)) (Some (length ps))

pub linked_is : (t : Rows) (s : ℕ) (prev next : Option ℕ)
    → linked_rows t s prev next ≡ rows_of t.nodes (left_slots t.slots s prev (Some (length t.places))) (grown_places t.places s prev next)
linked_is t s prev next =
    let q = Some (length t.places) in
    right_is (left_written (with_place t s prev next) s prev q) next q
    ∙ ap (λ (z : Rows). rows_of z.nodes z.slots (right_places z.places next q)) (left_is (with_place t s prev next) s prev q)

-- no place of a chain is a new one
pub fresh_away : (ps : List PlaceRow) (s : ℕ) (xs : List ℕ) (prev next : Option ℕ) → Chain ps s prev xs next → Among (length ps) xs → ⊥
fresh_away ps s xs prev next c m = let r = chain_row ps s xs prev next (length ps) c m in before_end ps (length ps) r.0 r.1 refl

pub record IsGrowing (ps : List PlaceRow) (s : ℕ) (xs ys : List ℕ) (prev next : Option ℕ) : Type 0 where
  pub gap : IsGap xs ys (length ps)
  pub prev_is : prev ≡ last_or gap.front None
  pub next_is : next ≡ head_or gap.back None
  pub distinct : Distinct xs
  pub chain : Chain ps s None xs None

growing_sides : (ps : List PlaceRow) (s : ℕ) (xs ys : List ℕ) (prev next : Option ℕ) → IsGrowing ps s xs ys prev next
    → IsRelinked ps (grown_places ps s prev next) prev next (length ps) (Some (length ps)) (Some (length ps))
growing_sides ps s xs ys prev next w =
    let row = between_row s prev next in
    let k = relinked (ps ++ row ∷ []) prev next (length ps) (Some (length ps)) (Some (length ps))
    (two_sides w.gap.front w.gap.back prev next w.prev_is w.next_is (subst Distinct w.gap.small_is w.distinct)) in
    record {
      left = λ a r e g. k.left a r e (push_old ps a row r g);
      right = λ b r e g. k.right b r e (push_old ps b row r g);
      others = λ y n p q. k.others y n p q ∙ push_away ps y row n;
    }

-- a neighbour of the gap is a place of the slot
prev_among : (ps : List PlaceRow) (s : ℕ) (xs ys : List ℕ) (prev next : Option ℕ) → IsGrowing ps s xs ys prev next → (y : ℕ) → prev ≡ Some y → Among y xs
prev_among ps s xs ys prev next w y e =
    subst (Among y) (sym w.gap.small_is) (⊎_elim (λ f. absurd (cc)) (λ f. among_front w.gap.front w.gap.back y f) (last_among w.gap.front None y (sym w.prev_is ∙ e)))

next_among : (ps : List PlaceRow) (s : ℕ) (xs ys : List ℕ) (prev next : Option ℕ) → IsGrowing ps s xs ys prev next → (y : ℕ) → next ≡ Some y → Among y xs
next_among ps s xs ys prev next w y e =
    subst (Among y) (sym w.gap.small_is) (among_back w.gap.front w.gap.back y (head_among w.gap.back y (sym w.next_is ∙ e)))

pub grown_chain : (ps : List PlaceRow) (s : ℕ) (xs ys : List ℕ) (prev next : Option ℕ) → IsGrowing ps s xs ys prev next → Chain (grown_places ps s prev next) s None ys None
grown_chain ps s xs ys prev next w =
    let us = w.gap.front in
    let vs = w.gap.back in
    let q = length ps in
    let ps' = grown_places ps s prev next in
    let row = between_row s prev next in
    let d = subst Distinct w.gap.small_is w.distinct in
    let parts = chain_parts ps s us vs None None (subst (λ z. Chain ps s None z None) w.gap.small_is w.chain) in
    let away : Among q (us ++ vs) → ⊥ = λ m. fresh_away ps s xs None None w.chain (subst (Among q) (sym w.gap.small_is) m) in
    let sides = sides_kept ps ps' s q us vs prev next (Some q) (Some q) (head_or vs None) (last_or us None) (growing_sides ps s xs ys prev next w) w.prev_is w.next_is d away parts.0 parts.1 in
    let not_prev : prev ≢ Some q = λ e. fresh_away ps s xs None None w.chain (prev_among ps s xs ys prev next w q e) in
    let not_next : next ≢ Some q = λ e. fresh_away ps s xs None None w.chain (next_among ps s xs ys prev next w q e) in
    let here : slice_get ps' q ≡ Some row =
    right_away (left_places (ps ++ row ∷ []) prev (Some q)) next (Some q) q not_next ∙ (left_away (ps ++ row ∷ []) prev (Some q) q not_prev ∙ push_new ps row) in
    subst (λ z. Chain ps' s None z None) (sym w.gap.big_is)
    (chain_whole ps' s us (q ∷ vs) None None sides.0
    (record { node = None; is = here ∙ (ap (λ z. Some (between_row s z next)) w.prev_is ∙ ap (λ z. Some (between_row s (last_or us None) z)) w.next_is) }, sides.1))

-- another slot's chain stays
pub grown_other : (ps : List PlaceRow) (s : ℕ) (xs ys : List ℕ) (prev next : Option ℕ) → IsGrowing ps s xs ys prev next → (i : ℕ) (zs : List ℕ) → i ≢ s → Chain ps i None zs None
    → Chain (grown_places ps s prev next) i None zs None
grown_other ps s xs ys prev next w i zs n c =
    chain_frame ps (grown_places ps s prev next) i zs None None
    (λ y m.
    let row = chain_row ps i zs None None y c m in
    let apart : Among y xs → ⊥ = (λ k.
    let other = chain_row ps s xs None None y w.chain k in
    let both = sym row.1 ∙ other.1 in
    let same : row.0 ≡ other.0 = cc in
    let owners : Some i ≡ Some s = sym row.2 ∙ (ap (λ (z : PlaceRow). z.owner) same ∙ other.2) in
    n (cc)) in
    (growing_sides ps s xs ys prev next w).others y (before_end ps y row.0 row.1) (λ e. apart (prev_among ps s xs ys prev next w y e)) (λ e. apart (next_among ps s xs ys prev next w y e))) c

pub grown_told : (ps : List PlaceRow) (s : ℕ) (prev next : Option ℕ) → map place_of (grown_places ps s prev next) ≡ map place_of ps ++ record { owner = Some s; node = None } ∷ []
grown_told ps s prev next =
    let q = Some (length ps) in
    let one = ps ++ between_row s prev next ∷ [] in
    right_told (left_places one prev q) next q ∙ (left_told one prev q ∙ map_append place_of ps (between_row s prev next ∷ []))
