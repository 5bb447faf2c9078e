-- The changes of the forest, as its methods say them.
use Rattle.std.proofs.Common.{◌≡◌, ⊎_elim, sym, ◌∙◌, ap, subst, refl, ℕ, ◌-◌, ◌<◌, ◌≤◌, ◌^◌, Bool, true, false, List, [], ◌∷◌, length, Option, Some, None, slice_get, if◌then◌else◌, arith, length-append}
use Rattle.std.proofs.lemmas.Option.{slice_get_within}
use Rattle.type_defs.specs.declared.kind.Kind.{Kind}
use Rattle.node_arena.specs.declared.links.Node.{Node}
use Rattle.node_arena.specs.declared.links.PlaceRow.{PlaceRow}
use Rattle.node_arena.specs.declared.links.SlotRow.{SlotRow}
use Rattle.node_arena.specs.Rows.{Rows, Table, table_of, edit, standing_at, node_in, left_alone, emptied_rows, seated_rows, given_rows, linked_rows, inserted_rows, detached_rows, made_rows, HasNodeRow, HasLeft, HasRight, HasEnds}
use Rattle.node_arena.specs.Lists.{Among, Distinct, head_or, last_or, insert_after, insert_before, without}
use Rattle.node_arena.specs.Forest.{Forest, Slot, Place, Linked, Chain, linked_of, forest_of, place_of, core_of, IsTable, IsRoot, IsRoot_row, Under, Holds, MayGo, Joins, IsListSlot, node_at, node_of, slot_at, owner_of, list_at, list_of, list_if, with_kids, empty_place, holding, reseated, cleared, clear_of, fill_of, put_of, grown, given, at_slot, left, make_of, insert_after_of, insert_before_of, insert_first_of, unlink_of}
use Rattle.node_arena.proofs.Edits.{was_kept, becomes, edit_here, length_edit}
use Rattle.node_arena.proofs.Pushes.{item_at, mapped, mapped_back, push_new, before_end}
use Rattle.node_arena.proofs.Splits.{without_gap, after_gap, before_gap}
use Rattle.node_arena.proofs.Linking.{chain_parts, chain_last, chain_head}
use Rattle.node_arena.proofs.Gaps.{IsGrowing}
use Rattle.node_arena.proofs.Leaving.{IsLeaving, has_left, has_right, has_ends, has_head}
use Rattle.node_arena.proofs.Births.{keeps_made}
use Rattle.node_arena.proofs.Endings.{under_fewer, below_cleared, place_reseated, below_grown, place_grown}
use Rattle.node_arena.proofs.Standing.{Keeps, long_places, keeps_cleared, keeps_filled, keeps_grown, keeps_left}

-- the table shows this forest and so much memory
abbrev pub Shows : Table → Linked → Type 0
Shows t A = linked_of (forest_of t.rows) t.spare ≡ A

-- what a method owes: the table is lawful, and shows this
abbrev pub Ends_as : Table → Linked → Type 0
Ends_as t A = IsTable t.rows × Shows t A

ends_as : (t : Table) (rows : Rows) (F : Forest) (n : ℕ) → t ≡ table_of rows n → Keeps rows F → Ends_as t (linked_of F n)
ends_as t rows F n e k = subst (λ z. Ends_as z (linked_of F n)) (sym e) (k.0, ap (λ z. linked_of z n) k.1)

-- a place and its row
pub record HasRowAt (t : Rows) (p : ℕ) : Type 0 where
  pub row : PlaceRow
  pub is : slice_get t.places p ≡ Some row
  pub place : slice_get (forest_of t).places p ≡ Some (place_of row)

pub row_at : (t : Rows) (p : ℕ) → p < length (forest_of t).places → HasRowAt t p
row_at t p h =
    let q = item_at (forest_of t).places p h in
    let r = mapped_back place_of t.places p q.0 q.1 in
    record { row = r.0; is = r.1; place = q.1 ∙ ap Some (sym r.2) }

-- Reads through what a method sees.
pub at_row : (t : Table) (A : Linked) (p : ℕ) → Shows t A → p < length A.forest.places → p < length t.rows.places
at_row t A p v h = let e = long_places t.rows in let d = ap (λ (z : Linked). length z.forest.places) v in omega arith

pub node_told : (t : Table) (A : Linked) (p : ℕ) → Shows t A → p < length A.forest.places → node_in (slice_get t.rows.places p) ≡ node_at A.forest p
node_told t A p v h =
    let r = row_at t.rows p (subst (λ (z : Linked). p < length z.forest.places) (sym v) h) in
    ap node_in r.is ∙ (ap node_of (sym r.place) ∙ ap (λ (z : Linked). node_at z.forest p) v)

node_row_of : (t : Rows) (o : Option ℕ) → ((j : ℕ) → o ≡ Some j → j < length t.nodes) → HasNodeRow t o
node_row_of t None h = tt
node_row_of t (Some j) h = h j refl

node_row_in : (t : Rows) (p : ℕ) → IsTable t → p < length (forest_of t).places → HasNodeRow t (node_in (slice_get t.places p))
node_row_in t p a h =
    let r = row_at t p h in
    subst (λ o. HasNodeRow t (node_in o)) (sym r.is)
    (node_row_of t r.row.node (λ j e. let w = a.lawful.seats.seated p j (place_of r.row) r.place e in slice_get_within t.nodes j w.row w.is))

pub node_row : (t : Table) (A : Linked) (p : ℕ) → IsTable t.rows → Shows t A → p < length A.forest.places → HasNodeRow t.rows (node_in (slice_get t.rows.places p))
node_row t A p a v h = node_row_in t.rows p a (subst (λ (z : Linked). p < length z.forest.places) (sym v) h)

-- Clearing.
emptied_cases : (t : Rows) (p : ℕ) (r : PlaceRow) (o : Option ℕ) → IsTable t → slice_get (forest_of t).places p ≡ Some (place_of r) → r.node ≡ o → Keeps (left_alone t p o) (cleared (forest_of t) p o)
emptied_cases t p r None a g e = (a, refl)
emptied_cases t p r (Some j) a g e = keeps_cleared t p j (place_of r) a g e

emptied_keeps : (t : Rows) (p : ℕ) → IsTable t → p < length (forest_of t).places → Keeps (emptied_rows t p) (clear_of (forest_of t) p)
emptied_keeps t p a h =
    let r = row_at t p h in
    subst (λ o. Keeps (left_alone t p (node_in o)) (clear_of (forest_of t) p)) (sym r.is)
    (subst (λ o. Keeps (left_alone t p r.row.node) (cleared (forest_of t) p (node_of o))) (sym r.place) (emptied_cases t p r.row r.row.node a r.place refl))

pub clear_case : (t u : Table) (A : Linked) (p : ℕ) → IsTable t.rows → Shows t A → p < length A.forest.places → u ≡ table_of (emptied_rows t.rows p) t.spare
    → Ends_as u (linked_of (clear_of A.forest p) A.spare)
clear_case t u A p a v h e =
    subst (λ (z : Linked). Ends_as u (linked_of (clear_of z.forest p) z.spare)) v
    (ends_as u (emptied_rows t.rows p) (clear_of (forest_of t.rows) p) t.spare e (emptied_keeps t.rows p a (subst (λ (z : Linked). p < length z.forest.places) (sym v) h)))

-- What a forest is after a place is cleared.
clear_length : (F : Forest) (p : ℕ) (o : Option ℕ) → length (cleared F p o).places ≡ length F.places
clear_length F p None = refl
clear_length F p (Some j) = length_edit F.places p (holding None)

clear_free : (F : Forest) (p : ℕ) (q : Place) (o : Option ℕ) → slice_get F.places p ≡ Some q → q.node ≡ o → node_at (cleared F p o) p ≡ None
clear_free F p q None g e = ap node_of g ∙ e
clear_free F p q (Some j) g e = ap node_of (edit_here F.places p (holding None) q g)

cleared_free : (F : Forest) (p : ℕ) → p < length F.places → node_at (clear_of F p) p ≡ None
cleared_free F p h = let q = item_at F.places p h in subst (λ o. node_at (cleared F p (node_of o)) p ≡ None) (sym q.1) (clear_free F p q.0 q.0.node q.1 refl)

-- a root that may go to a place may go there when it is cleared
pub root_row : (o : Option Node) → IsRoot_row o → (m : Node) × (o ≡ Some m) × (m.at ≡ None)
root_row None h = absurd h
root_row (Some m) h = (m, refl, h)

root_kept : (F : Forest) (j i : ℕ) (m : Node) → slice_get F.nodes j ≡ Some m → m.at ≡ None → IsRoot_row (slice_get (edit F.nodes i (standing_at None)) j)
root_kept F j i m g e =
    let w = becomes F.nodes i (standing_at None) j m g in
    subst IsRoot_row (sym w.is) (⊎_elim (λ d. ap (λ (z : Node). z.at) d.1) (λ d. ap (λ (z : Node). z.at) d.1 ∙ e) w.how)

clear_may : (F : Forest) (p j : ℕ) (o : Option ℕ) → MayGo F p j → MayGo (cleared F p o) p j
clear_may F p j None m = m
clear_may F p j (Some i) m =
    let n = root_row (slice_get F.nodes j) m.root in
    record {
      root = root_kept F j i n.0 n.1 n.2;
      apart = λ h. m.apart (record { node = h.node; under = under_fewer F (reseated F i p None None) (below_cleared F i p) j h.node h.under; at = place_reseated F i p None None h.node p h.at });
    }

-- Seating.
free_node : (o : Option Place) (q : Place) → o ≡ Some q → node_of o ≡ None → q.node ≡ None
free_node o q e h = ap node_of (sym e) ∙ h

pub seated_keeps : (t : Rows) (p j : ℕ) → IsTable t → p < length (forest_of t).places → node_at (forest_of t) p ≡ None → MayGo (forest_of t) p j → Keeps (seated_rows t p j) (fill_of (forest_of t) p j)
seated_keeps t p j a h free m =
    let F = forest_of t in
    let r = row_at t p h in
    let n = root_row (slice_get t.nodes j) m.root in
    keeps_filled t p j (place_of r.row) n.0 a r.place (free_node (slice_get F.places p) (place_of r.row) r.place free) n.1 n.2 m.apart

pub seated_on : (u : Rows) (F : Forest) (p j : ℕ) → Keeps u F → p < length F.places → node_at F p ≡ None → MayGo F p j → Keeps (seated_rows u p j) (fill_of F p j)
seated_on u F p j k h free m =
    subst (λ z. Keeps (seated_rows u p j) (fill_of z p j)) k.1
    (seated_keeps u p j k.0 (subst (λ z. p < length z.places) (sym k.1) h) (subst (λ z. node_at z p ≡ None) (sym k.1) free) (subst (λ z. MayGo z p j) (sym k.1) m))

pub root_within : (t : Rows) (F : Forest) (j : ℕ) → forest_of t ≡ F → IsRoot F j → j < length t.nodes
root_within t F j v h = let m = root_row (slice_get t.nodes j) (subst (λ z. IsRoot z j) (sym v) h) in slice_get_within t.nodes j m.0 m.1

emptied_on : (t : Table) (A : Linked) (p : ℕ) → IsTable t.rows → Shows t A → p < length A.forest.places → Keeps (emptied_rows t.rows p) (clear_of A.forest p)
emptied_on t A p a v h =
    subst (λ (z : Linked). Keeps (emptied_rows t.rows p) (clear_of z.forest p)) v (emptied_keeps t.rows p a (subst (λ (z : Linked). p < length z.forest.places) (sym v) h))

pub seat_row : (t u : Table) (A : Linked) (p j : ℕ) → IsTable t.rows → Shows t A → p < length A.forest.places → MayGo A.forest p j → u ≡ table_of (emptied_rows t.rows p) t.spare → j < length u.rows.nodes
seat_row t u A p j a v h m e =
    let k = emptied_on t A p a v h in
    subst (λ (z : Table). j < length z.rows.nodes) (sym e) (root_within (emptied_rows t.rows p) (clear_of A.forest p) j k.1 (clear_may A.forest p j (node_at A.forest p) m).root)

pub put_case : (t u w : Table) (A : Linked) (p j : ℕ) → IsTable t.rows → Shows t A → p < length A.forest.places → MayGo A.forest p j → u ≡ table_of (emptied_rows t.rows p) t.spare
    → w ≡ table_of (seated_rows u.rows p j) u.spare → Ends_as w (linked_of (put_of A.forest p j) A.spare)
put_case t u w A p j a v h m d e =
    let F = A.forest in
    let k = emptied_on t A p a v h in
    let long = clear_length F p (node_at F p) in
    let n = seated_on (emptied_rows t.rows p) (clear_of F p) p j k (omega arith) (cleared_free F p h) (clear_may F p j (node_at F p) m) in
    let spare : t.spare ≡ A.spare = ap (λ (z : Linked). z.spare) v in
    let e' : w ≡ table_of (seated_rows (emptied_rows t.rows p) p j) A.spare = e ∙ (ap (λ (z : Table). table_of (seated_rows z.rows p j) z.spare) d ∙ ap (table_of (seated_rows (emptied_rows t.rows p) p j)) spare) in
    ends_as w (seated_rows (emptied_rows t.rows p) p j) (put_of F p j) A.spare e' n

-- New nodes.
pub make_case : (t u : Table) (A : Linked) (kind : Kind) → IsTable t.rows → Shows t A → length A.forest.nodes < 2 ^ 22 → length (make_of A.forest kind).places ≤ 2 ^ 26
    → u ≡ table_of (made_rows t.rows kind) (t.spare - 1) → Ends_as u (linked_of (make_of A.forest kind) (A.spare - 1))
make_case t u A kind a v few places e =
    let nodes : length t.rows.nodes < 2 ^ 22 = let d = ap (λ (z : Linked). length z.forest.nodes) v in omega arith in
    subst (λ (z : Linked). Ends_as u (linked_of (make_of z.forest kind) (z.spare - 1))) v
    (ends_as u (made_rows t.rows kind) (make_of (forest_of t.rows) kind) (t.spare - 1) e
    (keeps_made t.rows kind a nodes (subst (λ (z : Linked). length (make_of z.forest kind).places ≤ 2 ^ 26) (sym v) places)))

-- A root in a new place of a list.
holds_new : (F : Forest) (s : ℕ) (f : List ℕ → List ℕ) (j x : ℕ) → x ≡ length F.places → ((n : Slot) → slice_get F.slots s ≡ Some n → Under F j n.node → ⊥) → Holds (grown F s f) j x → ⊥
holds_new F s f j x e apart h =
    let at = h.at in
    let under = under_fewer F (grown F s f) (below_grown F s f) j h.node h.under in
    ⊎_elim
    (λ w. before_end F.places x w.place w.is e)
    (λ w.
    let owners : Some s ≡ Some at.number = ap (λ (z : Place). z.owner) (sym w.1) ∙ at.owner in
    let number : at.number ≡ s = cc in
    let b = was_kept F.slots s (with_kids f) at.number at.slot (λ (z : Slot). z.node) (λ z. refl) at.slot_is in
    apart b.0 (ap (slice_get F.slots) (sym number) ∙ b.1) (subst (Under F j) (sym at.node ∙ b.2) under))
    (place_grown F s f h.node x at)

given_on : (u w : Rows) (F : Forest) (s q : ℕ) (f : List ℕ → List ℕ) (node : Option ℕ) → Keeps u (grown F s f) → q ≡ length F.places → Joins F s node → w ≡ given_rows u q node
    → Keeps w (given (grown F s f) (length F.places) node)
given_on u w F s q f None k e j h = subst (λ z. Keeps z (grown F s f)) (sym h) k
given_on u w F s q f (Some j) k e m h =
    let G = grown F s f in
    let more = length-append F.places (empty_place s ∷ []) in
    let free : node_at G q ≡ None = ap (λ z. node_at G z) e ∙ ap node_of (push_new F.places (empty_place s)) in
    subst (λ z. Keeps w (fill_of G z j)) e
    (subst (λ z. Keeps z (fill_of G q j)) (sym h) (seated_on u G q j k (omega arith) free (record { root = m.root; apart = λ z. holds_new F s f j q e m.apart z })))

-- A list of the table: its slot, its row and its chain.
pub record HasList (t : Rows) (s : ℕ) : Type 0 where
  pub slot : Slot
  pub is : slice_get (forest_of t).slots s ≡ Some slot
  pub row : slice_get t.slots s ≡ Some (core_of slot)
  pub list : slot.list ≡ true
  pub distinct : Distinct slot.kids
  pub chain : Chain t.places s None slot.kids None

pub slot_row : (t : Rows) (s : ℕ) (n : Slot) → IsTable t → slice_get (forest_of t).slots s ≡ Some n → slice_get t.slots s ≡ Some (core_of n)
slot_row t s n a g = ap (λ z. slice_get z s) a.stands.slots ∙ mapped core_of (forest_of t).slots s n g

has_list : (t : Rows) (s : ℕ) → IsTable t → IsListSlot (forest_of t) s → HasList t s
has_list t s a w = record {
  slot = w.slot;
  is = w.is;
  row = slot_row t s w.slot a w.is;
  list = w.list;
  distinct = a.lawful.lists.distinct s w.slot w.is;
  chain = a.stands.chains s w.slot w.is;
}

list_flag : (s s' : ℕ) (n : Slot) (b : Bool) → n.list ≡ b → (if b then Some s' else None) ≡ Some s → (s' ≡ s) × (n.list ≡ true)
list_flag s s' n true e h = ((cc), e)
list_flag s s' n false e h = absurd (cc)

list_if_is : (F : Forest) (s s' : ℕ) (o : Option Slot) → slice_get F.slots s' ≡ o → list_if s' o ≡ Some s → (s' ≡ s) × IsListSlot F s'
list_if_is F s s' None g e = absurd (cc)
list_if_is F s s' (Some n) g e = let k = list_flag s s' n n.list refl e in (k.0, record { slot = n; is = g; list = k.1 })

list_of_is : (F : Forest) (s : ℕ) (o : Option ℕ) → list_of F o ≡ Some s → (o ≡ Some s) × IsListSlot F s
list_of_is F s None e = absurd (cc)
list_of_is F s (Some s') e = let k = list_if_is F s s' (slice_get F.slots s') refl e in (ap Some k.0, subst (IsListSlot F) k.0 k.1)

-- a place of a list
pub record IsInList (t : Rows) (s p : ℕ) : Type 0 where
  pub list : HasList t s
  pub row : PlaceRow
  pub is : slice_get t.places p ≡ Some row
  pub among : Among p list.slot.kids

in_list : (t : Rows) (s p : ℕ) → IsTable t → p < length (forest_of t).places → list_at (forest_of t) p ≡ Some s → IsInList t s p
in_list t s p a h e =
    let F = forest_of t in
    let r = row_at t p h in
    let k = list_of_is F s (slot_at F p) e in
    let l = has_list t s a k.1 in
    let owner : (place_of r.row).owner ≡ Some s = ap owner_of (sym r.place) ∙ k.0 in
    let w = a.lawful.lists.owned p s (place_of r.row) r.place owner in
    let both = sym w.is ∙ l.is in
    let same : w.slot ≡ l.slot = cc in
    record { list = l; row = r.row; is = r.is; among = subst (λ (z : Slot). Among p z.kids) same w.among }

leaving : (t : Rows) (s p : ℕ) → (w : IsInList t s p) → IsLeaving t.places s p w.row w.list.slot.kids (without p w.list.slot.kids)
leaving t s p w = record { gap = without_gap p w.list.slot.kids w.among; row = w.is; distinct = w.list.distinct; chain = w.list.chain }

-- a new place beside a place of a list, or at its head
growing_after : (t : Rows) (s p : ℕ) → (w : IsInList t s p) → IsGrowing t.places s w.list.slot.kids (insert_after p (length t.places) w.list.slot.kids) (Some p) w.row.next
growing_after t s p w =
    let k = after_gap p (length t.places) w.list.slot.kids w.among in
    let parts = chain_parts t.places s k.gap.front k.gap.back None None (subst (λ z. Chain t.places s None z None) k.gap.small_is w.list.chain) in
    record {
      gap = k.gap;
      prev_is = sym (k.last None);
      next_is = chain_last t.places s k.gap.front None (head_or k.gap.back None) p w.row k.last parts.0 w.is;
      distinct = w.list.distinct;
      chain = w.list.chain;
    }

growing_before : (t : Rows) (s p : ℕ) → (w : IsInList t s p) → IsGrowing t.places s w.list.slot.kids (insert_before p (length t.places) w.list.slot.kids) w.row.prev (Some p)
growing_before t s p w =
    let k = before_gap p (length t.places) w.list.slot.kids w.among in
    let parts = chain_parts t.places s k.gap.front k.gap.back None None (subst (λ z. Chain t.places s None z None) k.gap.small_is w.list.chain) in
    record {
      gap = k.gap;
      prev_is = chain_head t.places s k.gap.back (last_or k.gap.front None) p w.row k.head parts.1 w.is;
      next_is = sym k.head;
      distinct = w.list.distinct;
      chain = w.list.chain;
    }

growing_first : (t : Rows) (s : ℕ) → (w : HasList t s) → IsGrowing t.places s w.slot.kids (length t.places ∷ w.slot.kids) None (head_or w.slot.kids None)
growing_first t s w = record { gap = record { front = []; back = w.slot.kids; small_is = refl; big_is = refl }; prev_is = refl; next_is = refl; distinct = w.distinct; chain = w.chain }

-- What the methods read of a place's list.
list_read : (t : Table) (A : Linked) (p : ℕ) (r : PlaceRow) → Shows t A → slice_get t.rows.places p ≡ Some r → list_of A.forest r.owner ≡ list_at A.forest p
list_read t A p r v g =
    ap (λ (z : Linked). list_of z.forest r.owner) (sym v) ∙ (ap (λ o. list_of (forest_of t.rows) (owner_of o)) (sym (mapped place_of t.rows.places p r g)) ∙ ap (λ (z : Linked). list_at z.forest p) v)

pub slot_back : (t : Rows) (s : ℕ) (k : SlotRow) → IsTable t → slice_get t.slots s ≡ Some k → (n : Slot) × (slice_get (forest_of t).slots s ≡ Some n) × (core_of n ≡ k)
slot_back t s k a g = mapped_back core_of (forest_of t).slots s k (ap (λ z. slice_get z s) (sym a.stands.slots) ∙ g)

list_row : (t : Table) (A : Linked) (s : ℕ) (k : SlotRow) → IsTable t.rows → Shows t A → slice_get t.rows.slots s ≡ Some k → list_of A.forest (Some s) ≡ (if k.list then Some s else None)
list_row t A s k a v g =
    let n = slot_back t.rows s k a g in
    ap (λ (z : Linked). list_if s (slice_get z.forest.slots s)) (sym v) ∙ (ap (list_if s) n.1 ∙ ap (λ (z : SlotRow). if z.list then Some s else None) n.2)

pub list_none : (t : Table) (A : Linked) (p : ℕ) (r : PlaceRow) → Shows t A → slice_get t.rows.places p ≡ Some r → r.owner ≡ None → None ≡ list_at A.forest p
list_none t A p r v g e = ap (list_of A.forest) (sym e) ∙ list_read t A p r v g

pub list_yes : (t : Table) (A : Linked) (p s : ℕ) (r : PlaceRow) (k : SlotRow) → IsTable t.rows → Shows t A → slice_get t.rows.places p ≡ Some r → r.owner ≡ Some s → slice_get t.rows.slots s ≡ Some k
    → k.list ≡ true → Some s ≡ list_at A.forest p
list_yes t A p s r k a v g e h l = ap (λ b. if b then Some s else None) (sym l) ∙ (sym (list_row t A s k a v h) ∙ (ap (list_of A.forest) (sym e) ∙ list_read t A p r v g))

pub list_no : (t : Table) (A : Linked) (p s : ℕ) (r : PlaceRow) (k : SlotRow) → IsTable t.rows → Shows t A → slice_get t.rows.places p ≡ Some r → r.owner ≡ Some s → slice_get t.rows.slots s ≡ Some k
    → k.list ≡ false → None ≡ list_at A.forest p
list_no t A p s r k a v g e h l = ap (λ b. if b then Some s else None) (sym l) ∙ (sym (list_row t A s k a v h) ∙ (ap (list_of A.forest) (sym e) ∙ list_read t A p r v g))

pub owner_row : (t : Table) (p s : ℕ) (r : PlaceRow) → IsTable t.rows → slice_get t.rows.places p ≡ Some r → r.owner ≡ Some s → s < length t.rows.slots
owner_row t p s r a g e =
    let w = a.lawful.lists.owned p s (place_of r) (mapped place_of t.rows.places p r g) e in
    slice_get_within t.rows.slots s (core_of w.slot) (slot_row t.rows s w.slot a w.is)

-- Inserts.
inserted_ends : (t w : Table) (s : ℕ) (f : ℕ → List ℕ → List ℕ) (prev next node : Option ℕ) → (l : HasList t.rows s) → IsTable t.rows → length (forest_of t.rows).places < 2 ^ 26
    → Joins (forest_of t.rows) s node → IsGrowing t.rows.places s l.slot.kids (f (length t.rows.places) l.slot.kids) prev next
    → w ≡ table_of (inserted_rows t.rows s prev next node) (t.spare - 1)
    → Ends_as w (linked_of (given (grown (forest_of t.rows) s (f (length (forest_of t.rows).places))) (length (forest_of t.rows).places) node) (t.spare - 1))
inserted_ends t w s f prev next node l a few j k e =
    let F = forest_of t.rows in
    let long = long_places t.rows in
    let g = keeps_grown t.rows s l.slot (f (length t.rows.places)) prev next a l.is l.list (omega arith) k in
    let g' = subst (λ z. Keeps (linked_rows t.rows s prev next) (grown F s (f z))) (sym long) g in
    ends_as w (inserted_rows t.rows s prev next node) (given (grown F s (f (length F.places))) (length F.places) node) (t.spare - 1) e
    (given_on (linked_rows t.rows s prev next) (inserted_rows t.rows s prev next node) F s (length t.rows.places) (f (length F.places)) node g' (sym long) j refl)

abbrev pub AfterCase : Table → ℕ → ℕ → Option ℕ → Linked → Type 0
AfterCase w s p node A =
    p < length A.forest.places → list_at A.forest p ≡ Some s → Joins A.forest s node → length A.forest.places < 2 ^ 26 → Ends_as w (linked_of (insert_after_of A.forest p node) (A.spare - 1))

after_in : (t w : Table) (s p : ℕ) (r : PlaceRow) (node : Option ℕ) → IsTable t.rows → slice_get t.rows.places p ≡ Some r → w ≡ table_of (inserted_rows t.rows s (Some p) r.next node) (t.spare - 1)
    → AfterCase w s p node (linked_of (forest_of t.rows) t.spare)
after_in t w s p r node a g e h l j few =
    let F = forest_of t.rows in
    let x = in_list t.rows s p a h l in
    let both = sym x.is ∙ g in
    let same : x.row ≡ r = cc in
    let k = subst (λ (z : PlaceRow). IsGrowing t.rows.places s x.list.slot.kids (insert_after p (length t.rows.places) x.list.slot.kids) (Some p) z.next) same (growing_after t.rows s p x) in
    subst (λ z. Ends_as w (linked_of z (t.spare - 1))) (sym (ap (λ o. at_slot F o (λ z. given (grown F z (insert_after p (length F.places))) (length F.places) node)) l))
    (inserted_ends t w s (insert_after p) (Some p) r.next node x.list a few j k e)

pub after_case : (t w : Table) (A : Linked) (s p : ℕ) (r : PlaceRow) (node : Option ℕ) → IsTable t.rows → Shows t A → slice_get t.rows.places p ≡ Some r
    → w ≡ table_of (inserted_rows t.rows s (Some p) r.next node) (t.spare - 1) → AfterCase w s p node A
after_case t w A s p r node a v g e = subst (AfterCase w s p node) v (after_in t w s p r node a g e)

abbrev pub BeforeCase : Table → ℕ → ℕ → Option ℕ → Linked → Type 0
BeforeCase w s p node A =
    p < length A.forest.places → list_at A.forest p ≡ Some s → Joins A.forest s node → length A.forest.places < 2 ^ 26 → Ends_as w (linked_of (insert_before_of A.forest p node) (A.spare - 1))

before_in : (t w : Table) (s p : ℕ) (r : PlaceRow) (node : Option ℕ) → IsTable t.rows → slice_get t.rows.places p ≡ Some r → w ≡ table_of (inserted_rows t.rows s r.prev (Some p) node) (t.spare - 1)
    → BeforeCase w s p node (linked_of (forest_of t.rows) t.spare)
before_in t w s p r node a g e h l j few =
    let F = forest_of t.rows in
    let x = in_list t.rows s p a h l in
    let both = sym x.is ∙ g in
    let same : x.row ≡ r = cc in
    let k = subst (λ (z : PlaceRow). IsGrowing t.rows.places s x.list.slot.kids (insert_before p (length t.rows.places) x.list.slot.kids) z.prev (Some p)) same (growing_before t.rows s p x) in
    subst (λ z. Ends_as w (linked_of z (t.spare - 1))) (sym (ap (λ o. at_slot F o (λ z. given (grown F z (insert_before p (length F.places))) (length F.places) node)) l))
    (inserted_ends t w s (insert_before p) r.prev (Some p) node x.list a few j k e)

pub before_case : (t w : Table) (A : Linked) (s p : ℕ) (r : PlaceRow) (node : Option ℕ) → IsTable t.rows → Shows t A → slice_get t.rows.places p ≡ Some r
    → w ≡ table_of (inserted_rows t.rows s r.prev (Some p) node) (t.spare - 1) → BeforeCase w s p node A
before_case t w A s p r node a v g e = subst (BeforeCase w s p node) v (before_in t w s p r node a g e)

abbrev pub FirstCase : Table → ℕ → Option ℕ → Linked → Type 0
FirstCase w s node A = IsListSlot A.forest s → Joins A.forest s node → length A.forest.places < 2 ^ 26 → Ends_as w (linked_of (insert_first_of A.forest s node) (A.spare - 1))

first_in : (t w : Table) (s : ℕ) (k : SlotRow) (node : Option ℕ) → IsTable t.rows → slice_get t.rows.slots s ≡ Some k → w ≡ table_of (inserted_rows t.rows s None k.first node) (t.spare - 1)
    → FirstCase w s node (linked_of (forest_of t.rows) t.spare)
first_in t w s k node a g e list j few =
    let x = has_list t.rows s a list in
    let both = sym x.row ∙ g in
    let same : core_of x.slot ≡ k = cc in
    let grow = subst (λ (z : SlotRow). IsGrowing t.rows.places s x.slot.kids (length t.rows.places ∷ x.slot.kids) None z.first) same (growing_first t.rows s x) in
    inserted_ends t w s (λ q ys. q ∷ ys) None k.first node x a few j grow e

pub first_case : (t w : Table) (A : Linked) (s : ℕ) (k : SlotRow) (node : Option ℕ) → IsTable t.rows → Shows t A → slice_get t.rows.slots s ≡ Some k
    → w ≡ table_of (inserted_rows t.rows s None k.first node) (t.spare - 1) → FirstCase w s node A
first_case t w A s k node a v g e = subst (FirstCase w s node) v (first_in t w s k node a g e)

-- What the writes of an insert need.
joins_in : (t : Rows) (s : ℕ) (node : Option ℕ) → Joins (forest_of t) s node → HasNodeRow t node
joins_in t s None j = tt
joins_in t s (Some j) m = root_within t (forest_of t) j refl m.root

pub joins_row : (t : Table) (A : Linked) (s : ℕ) (node : Option ℕ) → Shows t A → Joins A.forest s node → HasNodeRow t.rows node
joins_row t A s node v j = joins_in t.rows s node (subst (λ (z : Linked). Joins z.forest s node) (sym v) j)

pub few_case : (t : Table) (A : Linked) → Shows t A → length A.forest.places < 2 ^ 26 → length t.rows.places < 2 ^ 32
few_case t A v h = let e = long_places t.rows in let d = ap (λ (z : Linked). length z.forest.places) v in omega arith

abbrev pub EndsCase : Table → ℕ → ℕ → PlaceRow → Linked → Type 0
EndsCase t s p r A = p < length A.forest.places → list_at A.forest p ≡ Some s → HasLeft t.rows s r.prev × HasRight t.rows r.next

ends_in : (t : Table) (s p : ℕ) (r : PlaceRow) → IsTable t.rows → slice_get t.rows.places p ≡ Some r → EndsCase t s p r (linked_of (forest_of t.rows) t.spare)
ends_in t s p r a g h l =
    let x = in_list t.rows s p a h l in
    let both = sym x.is ∙ g in
    let same : x.row ≡ r = cc in
    let w = leaving t.rows s p x in
    let within = slice_get_within t.rows.slots s (core_of x.list.slot) x.list.row in
    subst (λ (z : PlaceRow). HasLeft t.rows s z.prev × HasRight t.rows z.next) same
    (has_left t.rows s p x.row x.list.slot.kids (without p x.list.slot.kids) w within, has_right t.rows s p x.row x.list.slot.kids (without p x.list.slot.kids) w)

pub ends_case : (t : Table) (A : Linked) (s p : ℕ) (r : PlaceRow) → IsTable t.rows → Shows t A → slice_get t.rows.places p ≡ Some r → EndsCase t s p r A
ends_case t A s p r a v g = subst (EndsCase t s p r) v (ends_in t s p r a g)

abbrev pub HeadCase : Table → ℕ → Linked → Type 0
HeadCase t s A = IsListSlot A.forest s → (s < length t.rows.slots) × ((k : SlotRow) → slice_get t.rows.slots s ≡ Some k → HasRight t.rows k.first)

head_in : (t : Table) (s : ℕ) → IsTable t.rows → HeadCase t s (linked_of (forest_of t.rows) t.spare)
head_in t s a list =
    let x = has_list t.rows s a list in (
      slice_get_within t.rows.slots s (core_of x.slot) x.row,
      λ k g. let both = sym x.row ∙ g in let same : core_of x.slot ≡ k = cc in subst (λ (z : SlotRow). HasRight t.rows z.first) same (has_head t.rows s x.slot.kids x.chain),
    )

pub head_case : (t : Table) (A : Linked) (s : ℕ) → IsTable t.rows → Shows t A → HeadCase t s A
head_case t A s a v = subst (HeadCase t s) v (head_in t s a)

-- A place that leaves its list.
slot_cleared : (F : Forest) (p : ℕ) (q : Place) (o : Option ℕ) → slice_get F.places p ≡ Some q → slot_at (cleared F p o) p ≡ slot_at F p
slot_cleared F p q None g = refl
slot_cleared F p q (Some j) g = ap owner_of (edit_here F.places p (holding None) q g) ∙ ap owner_of (sym g)

list_same : (F : Forest) (p : ℕ) (o z : Option ℕ) → list_of (cleared F p o) z ≡ list_of F z
list_same F p None z = refl
list_same F p (Some j) None = refl
list_same F p (Some j) (Some s) = refl

list_after : (F : Forest) (p : ℕ) → p < length F.places → list_at (clear_of F p) p ≡ list_at F p
list_after F p h =
    let q = item_at F.places p h in
    ap (list_of (clear_of F p)) (slot_cleared F p q.0 (node_at F p) q.1) ∙ list_same F p (node_at F p) (slot_at F p)

emptied_in : (t u : Table) (A : Linked) (s p : ℕ) → IsTable t.rows → Shows t A → p < length A.forest.places → list_at A.forest p ≡ Some s → u ≡ table_of (emptied_rows t.rows p) t.spare
    → IsInList u.rows s p × Keeps u.rows (clear_of A.forest p)
emptied_in t u A s p a v h l e =
    let F = A.forest in
    let k = subst (λ (z : Table). Keeps z.rows (clear_of F p)) (sym e) (emptied_on t A p a v h) in
    let long = clear_length F p (node_at F p) in
    let within : p < length (clear_of F p).places = omega arith in
    let list : list_at (clear_of F p) p ≡ Some s = list_after F p h ∙ l in
    (in_list u.rows s p k.0 (subst (λ z. p < length z.places) (sym k.1) within) (subst (λ z. list_at z p ≡ Some s) (sym k.1) list), k)

pub unlink_ends : (t u : Table) (A : Linked) (s p : ℕ) → IsTable t.rows → Shows t A → p < length A.forest.places → list_at A.forest p ≡ Some s → u ≡ table_of (emptied_rows t.rows p) t.spare
    → HasEnds u.rows s p
unlink_ends t u A s p a v h l e =
    let k = emptied_in t u A s p a v h l e in
    let x = k.0 in
    has_ends u.rows s p x.row x.list.slot.kids (without p x.list.slot.kids) (leaving u.rows s p x) (slice_get_within u.rows.slots s (core_of x.list.slot) x.list.row)

pub unlink_at : (t u : Table) (A : Linked) (s p : ℕ) → IsTable t.rows → Shows t A → p < length A.forest.places → list_at A.forest p ≡ Some s → u ≡ table_of (emptied_rows t.rows p) t.spare
    → p < length u.rows.places
unlink_at t u A s p a v h l e = let k = emptied_in t u A s p a v h l e in slice_get_within u.rows.places p k.0.row k.0.is

pub unlink_case : (t u w : Table) (A : Linked) (s p : ℕ) → IsTable t.rows → Shows t A → p < length A.forest.places → list_at A.forest p ≡ Some s → u ≡ table_of (emptied_rows t.rows p) t.spare
    → w ≡ table_of (detached_rows u.rows s p) u.spare → Ends_as w (linked_of (unlink_of A.forest p) A.spare)
unlink_case t u w A s p a v h l d e =
    let F = A.forest in
    let k = emptied_in t u A s p a v h l d in
    let x = k.0 in
    let n = keeps_left u.rows s p x.list.slot x.row k.1.0 x.list.is x.list.list (leaving u.rows s p x) in
    let n' : Keeps (detached_rows u.rows s p) (left (clear_of F p) s p) = subst (λ z. Keeps (detached_rows u.rows s p) (left z s p)) k.1.1 n in
    let spare : u.spare ≡ A.spare = ap (λ (z : Table). z.spare) d ∙ ap (λ (z : Linked). z.spare) v in
    subst (λ z. Ends_as w (linked_of z A.spare)) (sym (ap (λ o. at_slot F o (λ z. left (clear_of F p) z p)) l))
    (ends_as w (detached_rows u.rows s p) (left (clear_of F p) s p) A.spare (e ∙ ap (table_of (detached_rows u.rows s p)) spare) n')
