-- What the reads tell.
use Rattle.std.proofs.Common.{◌≡◌, ◌≢◌, inl, inr, ⊎_elim, sym, ◌∙◌, ap, subst, refl, ℕ, ◌+◌, ◌<◌, ◌≤◌, ◌^◌, Bool, true, false, List, [], ◌∷◌, ◌++◌, length, Option, Some, None, IfSome, slice_get, ◌==◌, nat_lt, if◌then◌else◌, arith}
use Rattle.std.proofs.lemmas.Option.{slice_get_within}
use Rattle.std.proofs.lemmas.Bool.{cases_lt, lt-ltb, le-ltb}
use Rattle.std.proofs.lemmas.Bool.Decides.{eqb_tells}
use Rattle.std.proofs.lemmas.List.{length-map}
use Rattle.type_defs.specs.declared.kind.Kind.{Kind}
use Rattle.type_defs.specs.Fields.{Field, slots_at, lists_at, is_list_at, list_some}
use Rattle.node_arena.specs.declared.links.Node.{Node}
use Rattle.node_arena.specs.declared.links.SlotRow.{SlotRow}
use Rattle.node_arena.specs.declared.links.PlaceRow.{PlaceRow}
use Rattle.node_arena.specs.declared.state.PlaceState.TheVariants.{Root, Single, Listed, Out}
use Rattle.node_arena.specs.Rows.{Rows, Table}
use Rattle.node_arena.specs.Lists.{Among, head_or, last_or, without}
use Rattle.node_arena.specs.Forest.{Slot, Linked, forest_of, place_of, core_of, IsTable, IsListSlot, slot_at, owner_of, node_at, node_of}
use Rattle.node_arena.specs.Reads.{kind_at, base_at, place_at, kids_at, kids_in, first_at, following, preceding, next_at, next_in, prev_at, prev_in, owner_at, owner_in, index_at, index_in, slot_node, slot_index, slot_state, state_at, state_in, kind_in, base_in, place_in}
use Rattle.node_arena.proofs.Pushes.{mapped}
use Rattle.node_arena.proofs.Splits.{without_gap, gap_apart}
use Rattle.node_arena.proofs.Linking.{chain_row, among_front, head_among}
use Rattle.node_arena.proofs.Leaving.{IsLeaving, leaving_ends, prev_in_slot, next_in_slot}
use Rattle.node_arena.proofs.Standing.{long_places}
use Rattle.node_arena.proofs.Methods.{Shows, slot_back, slot_row}

pub if_some : (P : ℕ → Type 0) (o : Option ℕ) → ((j : ℕ) → o ≡ Some j → P j) → IfSome o P
if_some P None f = tt
if_some P (Some j) f = f j refl

-- Nodes.
nodes_are : (t : Table) (A : Linked) → Shows t A → t.rows.nodes ≡ A.forest.nodes
nodes_are t A v = ap (λ (z : Linked). z.forest.nodes) v

pub node_row : (t : Table) (A : Linked) (j : ℕ) → Shows t A → j < length A.forest.nodes → j < length t.rows.nodes
node_row t A j v h = subst (λ z. j < length z) (sym (nodes_are t A v)) h

node_is : (t : Table) (A : Linked) (j : ℕ) (m : Node) → Shows t A → slice_get t.rows.nodes j ≡ Some m → slice_get A.forest.nodes j ≡ Some m
node_is t A j m v g = ap (λ z. slice_get z j) (sym (nodes_are t A v)) ∙ g

pub kind_told : (t : Table) (A : Linked) (j : ℕ) (m : Node) → Shows t A → slice_get t.rows.nodes j ≡ Some m → m.kind ≡ kind_at A.forest j
kind_told t A j m v g = ap kind_in (sym (node_is t A j m v g))

pub base_told : (t : Table) (A : Linked) (j : ℕ) (m : Node) → Shows t A → slice_get t.rows.nodes j ≡ Some m → m.base ≡ base_at A.forest j
base_told t A j m v g = ap base_in (sym (node_is t A j m v g))

pub place_told : (t : Table) (A : Linked) (j : ℕ) (m : Node) → Shows t A → slice_get t.rows.nodes j ≡ Some m → m.at ≡ place_at A.forest j
place_told t A j m v g = ap place_in (sym (node_is t A j m v g))

-- a place of the table is one of the forest
places_are : (t : Table) (A : Linked) (p : ℕ) → Shows t A → p < length (forest_of t.rows).places → p < length A.forest.places
places_are t A p v h = subst (λ (z : Linked). p < length z.forest.places) v h

pub place_within : (t : Table) (A : Linked) (j : ℕ) (m : Node) → IsTable t.rows → Shows t A → slice_get t.rows.nodes j ≡ Some m → IfSome m.at (λ p. p < length A.forest.places)
place_within t A j m a v g =
    if_some (λ p. p < length A.forest.places) m.at
    (λ p e. let w = a.lawful.seats.seat j p m g e in places_are t A p v (slice_get_within (forest_of t.rows).places p w.place w.is))

-- Places.
place_is : (t : Table) (A : Linked) (p : ℕ) (r : PlaceRow) → Shows t A → slice_get t.rows.places p ≡ Some r → slice_get A.forest.places p ≡ Some (place_of r)
place_is t A p r v g = ap (λ (z : Linked). slice_get z.forest.places p) (sym v) ∙ mapped place_of t.rows.places p r g

pub node_read : (t : Table) (A : Linked) (p : ℕ) (r : PlaceRow) → Shows t A → slice_get t.rows.places p ≡ Some r → r.node ≡ node_at A.forest p
node_read t A p r v g = ap node_of (sym (place_is t A p r v g))

pub node_within : (t : Table) (A : Linked) (p : ℕ) (r : PlaceRow) → IsTable t.rows → Shows t A → slice_get t.rows.places p ≡ Some r → IfSome r.node (λ j. j < length A.forest.nodes)
node_within t A p r a v g =
    if_some (λ j. j < length A.forest.nodes) r.node
    (λ j e.
    let w = a.lawful.seats.seated p j (place_of r) (mapped place_of t.rows.places p r g) e in
    subst (λ z. j < length z) (nodes_are t A v) (slice_get_within t.rows.nodes j w.row w.is))

slot_read : (t : Table) (A : Linked) (p : ℕ) (r : PlaceRow) → Shows t A → slice_get t.rows.places p ≡ Some r → r.owner ≡ slot_at A.forest p
slot_read t A p r v g = ap owner_of (sym (place_is t A p r v g))

slot_is : (t : Table) (A : Linked) (s : ℕ) (k : SlotRow) → IsTable t.rows → Shows t A → slice_get t.rows.slots s ≡ Some k → (n : Slot) × (slice_get A.forest.slots s ≡ Some n) × (core_of n ≡ k)
slot_is t A s k a v g = let n = slot_back t.rows s k a g in (n.0, ap (λ (z : Linked). slice_get z.forest.slots s) (sym v) ∙ n.1, n.2)

pub owner_none : (t : Table) (A : Linked) (p : ℕ) (r : PlaceRow) → Shows t A → slice_get t.rows.places p ≡ Some r → r.owner ≡ None → None ≡ owner_at A.forest p
owner_none t A p r v g e = ap (owner_in A.forest) (sym e ∙ slot_read t A p r v g)

pub owner_some : (t : Table) (A : Linked) (p s : ℕ) (r : PlaceRow) (k : SlotRow) → IsTable t.rows → Shows t A → slice_get t.rows.places p ≡ Some r → r.owner ≡ Some s → slice_get t.rows.slots s ≡ Some k
    → Some k.node ≡ owner_at A.forest p
owner_some t A p s r k a v g e h =
    let n = slot_is t A s k a v h in
    ap (λ (z : SlotRow). Some z.node) (sym n.2) ∙ (ap slot_node (sym n.1) ∙ ap (owner_in A.forest) (sym e ∙ slot_read t A p r v g))

pub owner_within : (t : Table) (A : Linked) (s : ℕ) (k : SlotRow) → IsTable t.rows → Shows t A → slice_get t.rows.slots s ≡ Some k → k.node < length A.forest.nodes
owner_within t A s k a v g =
    let n = slot_back t.rows s k a g in
    let w = a.lawful.shape.based s n.0 n.1 in
    subst (λ z. k.node < length z) (nodes_are t A v)
    (subst (λ (z : SlotRow). z.node < length t.rows.nodes) n.2 (slice_get_within t.rows.nodes n.0.node w.row w.is))

pub index_none : (t : Table) (A : Linked) (p : ℕ) (r : PlaceRow) → Shows t A → slice_get t.rows.places p ≡ Some r → r.owner ≡ None → None ≡ index_at A.forest p
index_none t A p r v g e = ap (index_in A.forest) (sym e ∙ slot_read t A p r v g)

pub index_some : (t : Table) (A : Linked) (p s : ℕ) (r : PlaceRow) (k : SlotRow) → IsTable t.rows → Shows t A → slice_get t.rows.places p ≡ Some r → r.owner ≡ Some s → slice_get t.rows.slots s ≡ Some k
    → Some k.index ≡ index_at A.forest p
index_some t A p s r k a v g e h =
    let n = slot_is t A s k a v h in
    ap (λ (z : SlotRow). Some z.index) (sym n.2) ∙ (ap slot_index (sym n.1) ∙ ap (index_in A.forest) (sym e ∙ slot_read t A p r v g))

-- Neighbours.
following_gap : (p : ℕ) (us vs : List ℕ) → (Among p us → ⊥) → following p (us ++ p ∷ vs) ≡ head_or vs None
following_gap p [] vs n = ⊎_elim (λ d. rw d.0 refl) (λ d. absurd (d.1 refl)) (eqb_tells p p)
following_gap p (u ∷ us) vs n = ⊎_elim (λ d. absurd (n (inl (sym d.1)))) (λ d. rw d.0 (following_gap p us vs (λ m. n (inr m)))) (eqb_tells u p)

preceding_gap : (p : ℕ) (us vs : List ℕ) (o : Option ℕ) → (Among p us → ⊥) → preceding p o (us ++ p ∷ vs) ≡ last_or us o
preceding_gap p [] vs o n = ⊎_elim (λ d. rw d.0 refl) (λ d. absurd (d.1 refl)) (eqb_tells p p)
preceding_gap p (u ∷ us) vs o n = ⊎_elim (λ d. absurd (n (inl (sym d.1)))) (λ d. rw d.0 (preceding_gap p us vs (Some u) (λ m. n (inr m)))) (eqb_tells u p)

-- a place of a slot, with its neighbours
record IsInSlot (t : Rows) (s p : ℕ) (r : PlaceRow) : Type 0 where
  slot : Slot
  is : slice_get (forest_of t).slots s ≡ Some slot
  among : Among p slot.kids
  leaving : IsLeaving t.places s p r slot.kids (without p slot.kids)

in_slot : (t : Rows) (s p : ℕ) (r : PlaceRow) → IsTable t → slice_get t.places p ≡ Some r → r.owner ≡ Some s → IsInSlot t s p r
in_slot t s p r a g e =
    let w = a.lawful.lists.owned p s (place_of r) (mapped place_of t.places p r g) e in
    record {
      slot = w.slot;
      is = w.is;
      among = w.among;
      leaving = record { gap = without_gap p w.slot.kids w.among; row = g; distinct = a.lawful.lists.distinct s w.slot w.is; chain = a.stands.chains s w.slot w.is };
    }

apart_front : (t : Rows) (s p : ℕ) (r : PlaceRow) → (w : IsInSlot t s p r) → Among p w.leaving.gap.front → ⊥
apart_front t s p r w m =
    let k = w.leaving in
    (gap_apart (without p w.slot.kids) w.slot.kids p k.gap k.distinct).1 (subst (Among p) (sym k.gap.small_is) (among_front k.gap.front k.gap.back p m))

next_of_row : (t : Rows) (s p : ℕ) (r : PlaceRow) → (w : IsInSlot t s p r) → r.next ≡ following p w.slot.kids
next_of_row t s p r w =
    let k = w.leaving in
    (leaving_ends t.places s p r w.slot.kids (without p w.slot.kids) k).1 ∙ (sym (following_gap p k.gap.front k.gap.back (apart_front t s p r w)) ∙ ap (following p) (sym k.gap.big_is))

prev_of_row : (t : Rows) (s p : ℕ) (r : PlaceRow) → (w : IsInSlot t s p r) → r.prev ≡ preceding p None w.slot.kids
prev_of_row t s p r w =
    let k = w.leaving in
    (leaving_ends t.places s p r w.slot.kids (without p w.slot.kids) k).0 ∙ (sym (preceding_gap p k.gap.front k.gap.back None (apart_front t s p r w)) ∙ ap (preceding p None) (sym k.gap.big_is))

pub next_none : (t : Table) (A : Linked) (p : ℕ) (r : PlaceRow) → Shows t A → slice_get t.rows.places p ≡ Some r → r.owner ≡ None → None ≡ next_at A.forest p
next_none t A p r v g e = ap (next_in A.forest p) (sym e ∙ slot_read t A p r v g)

pub next_some : (t : Table) (A : Linked) (p s : ℕ) (r : PlaceRow) → IsTable t.rows → Shows t A → slice_get t.rows.places p ≡ Some r → r.owner ≡ Some s → r.next ≡ next_at A.forest p
next_some t A p s r a v g e =
    let w = in_slot t.rows s p r a g e in
    next_of_row t.rows s p r w
    ∙ (ap (λ o. following p (kids_in o)) (sym w.is) ∙ (ap (λ (z : Linked). following p (kids_at z.forest s)) v ∙ ap (next_in A.forest p) (sym e ∙ slot_read t A p r v g)))

pub next_within : (t : Table) (A : Linked) (p s : ℕ) (r : PlaceRow) → IsTable t.rows → Shows t A → slice_get t.rows.places p ≡ Some r → r.owner ≡ Some s → IfSome r.next (λ q. q < length A.forest.places)
next_within t A p s r a v g e =
    let w = in_slot t.rows s p r a g e in
    let long = long_places t.rows in
    if_some (λ q. q < length A.forest.places) r.next
    (λ q h.
    let row = chain_row t.rows.places s w.slot.kids None None q w.leaving.chain (next_in_slot t.rows.places s p r w.slot.kids (without p w.slot.kids) w.leaving q h) in
    let lt = slice_get_within t.rows.places q row.0 row.1 in
    places_are t A q v (omega arith))

pub prev_none : (t : Table) (A : Linked) (p : ℕ) (r : PlaceRow) → Shows t A → slice_get t.rows.places p ≡ Some r → r.owner ≡ None → None ≡ prev_at A.forest p
prev_none t A p r v g e = ap (prev_in A.forest p) (sym e ∙ slot_read t A p r v g)

pub prev_some : (t : Table) (A : Linked) (p s : ℕ) (r : PlaceRow) → IsTable t.rows → Shows t A → slice_get t.rows.places p ≡ Some r → r.owner ≡ Some s → r.prev ≡ prev_at A.forest p
prev_some t A p s r a v g e =
    let w = in_slot t.rows s p r a g e in
    prev_of_row t.rows s p r w
    ∙ (ap (λ o. preceding p None (kids_in o)) (sym w.is) ∙ (ap (λ (z : Linked). preceding p None (kids_at z.forest s)) v ∙ ap (prev_in A.forest p) (sym e ∙ slot_read t A p r v g)))

pub prev_within : (t : Table) (A : Linked) (p s : ℕ) (r : PlaceRow) → IsTable t.rows → Shows t A → slice_get t.rows.places p ≡ Some r → r.owner ≡ Some s → IfSome r.prev (λ q. q < length A.forest.places)
prev_within t A p s r a v g e =
    let w = in_slot t.rows s p r a g e in
    let long = long_places t.rows in
    if_some (λ q. q < length A.forest.places) r.prev
    (λ q h.
    let row = chain_row t.rows.places s w.slot.kids None None q w.leaving.chain (prev_in_slot t.rows.places s p r w.slot.kids (without p w.slot.kids) w.leaving q h) in
    let lt = slice_get_within t.rows.places q row.0 row.1 in
    places_are t A q v (omega arith))

-- The state.
pub state_none : (t : Table) (A : Linked) (p : ℕ) (r : PlaceRow) → Shows t A → slice_get t.rows.places p ≡ Some r → r.owner ≡ None → (if p == 0 then Root else Out) ≡ state_at A.forest p
state_none t A p r v g e = ap (state_in A.forest p) (sym e ∙ slot_read t A p r v g)

pub state_some : (t : Table) (A : Linked) (p s : ℕ) (r : PlaceRow) (k : SlotRow) → IsTable t.rows → Shows t A → slice_get t.rows.places p ≡ Some r → r.owner ≡ Some s → slice_get t.rows.slots s ≡ Some k
    → (if k.list then Listed else Single) ≡ state_at A.forest p
state_some t A p s r k a v g e h =
    let n = slot_is t A s k a v h in
    ap (λ (z : SlotRow). if z.list then Listed else Single) (sym n.2) ∙ (ap slot_state (sym n.1) ∙ ap (state_in A.forest p) (sym e ∙ slot_read t A p r v g))

-- The slots of a node.
slots_of : (kind : Kind) (k n : ℕ) → n ≡ length (slots_at kind) → k < n → k < length (lists_at kind)
slots_of kind k n e h = let d = length-map (slots_at kind) (λ (f : Field). f.list) in omega arith

pub slot_within : (t : Table) (j k n : ℕ) (m : Node) → IsTable t.rows → slice_get t.rows.nodes j ≡ Some m → n ≡ length (slots_at m.kind) → k < n → m.base + k < length t.rows.slots
slot_within t j k n m a g e h =
    let w = a.lawful.shape.slotted j k m g (slots_of m.kind k n e h) in
    slice_get_within t.rows.slots (m.base + k) (core_of w.slot) (slot_row t.rows (m.base + k) w.slot a w.is)

pub slot_fits : (t : Table) (j k n : ℕ) (m : Node) → IsTable t.rows → slice_get t.rows.nodes j ≡ Some m → n ≡ length (slots_at m.kind) → k < n → m.base + k < 2 ^ 32
slot_fits t j k n m a g e h =
    let w = slot_within t j k n m a g e h in
    let x = a.few_slots in
    let y = a.few_nodes in
    omega arith

if_yes : (b : Bool) (x y : Option ℕ) → b ≡ true → (if b then x else y) ≡ x
if_yes true x y e = refl
if_yes false x y e = absurd (cc)

if_no : (b : Bool) (x y : Option ℕ) → b ≡ false → (if b then x else y) ≡ y
if_no true x y e = absurd (cc)
if_no false x y e = refl

first_of : (t : Table) (A : Linked) (j k : ℕ) (m : Node) → Shows t A → slice_get t.rows.nodes j ≡ Some m
    → (if nat_lt k (length (lists_at m.kind)) then head_or (kids_at A.forest (m.base + k)) None else None) ≡ first_at A.forest j k
first_of t A j k m v g =
    ap (λ z. if nat_lt k (length (lists_at z)) then head_or (kids_at A.forest (m.base + k)) None else None) (kind_told t A j m v g)
    ∙ ap (λ z. if nat_lt k (length (lists_at (kind_at A.forest j))) then head_or (kids_at A.forest (z + k)) None else None) (base_told t A j m v g)

pub first_none : (t : Table) (A : Linked) (j k n : ℕ) (m : Node) → Shows t A → slice_get t.rows.nodes j ≡ Some m → n ≡ length (slots_at m.kind) → n ≤ k → None ≡ first_at A.forest j k
first_none t A j k n m v g e h =
    let d = length-map (slots_at m.kind) (λ (f : Field). f.list) in
    sym (if_no (nat_lt k (length (lists_at m.kind))) (head_or (kids_at A.forest (m.base + k)) None) None (le-ltb k (length (lists_at m.kind)) (omega arith))) ∙ first_of t A j k m v g

pub first_some : (t : Table) (A : Linked) (j k n : ℕ) (m : Node) (r : SlotRow) → IsTable t.rows → Shows t A → slice_get t.rows.nodes j ≡ Some m → n ≡ length (slots_at m.kind) → k < n
    → slice_get t.rows.slots (m.base + k) ≡ Some r → r.first ≡ first_at A.forest j k
first_some t A j k n m r a v g e h d =
    let s = slot_is t A (m.base + k) r a v d in
    ap (λ (z : SlotRow). z.first) (sym s.2)
    ∙ (ap (λ o. head_or (kids_in o) None) (sym s.1)
    ∙ (sym (if_yes (nat_lt k (length (lists_at m.kind))) (head_or (kids_at A.forest (m.base + k)) None) None (lt-ltb k (length (lists_at m.kind)) (slots_of m.kind k n e h))) ∙ first_of t A j k m v g))

-- a slot behind all, or another node's, is none of the node's
pub first_past : (t : Table) (A : Linked) (j k : ℕ) (m : Node) → IsTable t.rows → Shows t A → slice_get t.rows.nodes j ≡ Some m → length t.rows.slots ≤ m.base + k → None ≡ first_at A.forest j k
first_past t A j k m a v g h =
    ⊎_elim (λ lt. let w = slot_within t j k (length (slots_at m.kind)) m a g refl lt in absurd (omega arith)) (λ le. first_none t A j k (length (slots_at m.kind)) m v g refl le)
    (cases_lt k (length (slots_at m.kind)))

row_node : Option SlotRow → ℕ
row_node None = 0
row_node (Some r) = r.node

pub first_other : (t : Table) (A : Linked) (j k : ℕ) (m : Node) (r : SlotRow) → IsTable t.rows → Shows t A → slice_get t.rows.nodes j ≡ Some m → slice_get t.rows.slots (m.base + k) ≡ Some r → r.node ≢ j
    → None ≡ first_at A.forest j k
unfolding row_node
first_other t A j k m r a v g d other =
    ⊎_elim
    (λ lt.
    let w = a.lawful.shape.slotted j k m g (slots_of m.kind k (length (slots_at m.kind)) refl lt) in
    absurd (other (ap row_node (sym d ∙ slot_row t.rows (m.base + k) w.slot a w.is) ∙ w.node)))
    (λ le. first_none t A j k (length (slots_at m.kind)) m v g refl le)
    (cases_lt k (length (slots_at m.kind)))

-- a slot of the node's own
pub first_own : (t : Table) (A : Linked) (j k : ℕ) (m : Node) (r : SlotRow) → IsTable t.rows → Shows t A → slice_get t.rows.nodes j ≡ Some m → slice_get t.rows.slots (m.base + k) ≡ Some r → r.node ≡ j
    → r.first ≡ first_at A.forest j k
first_own t A j k m r a v g d own =
    let n = slot_back t.rows (m.base + k) r a d in
    let w = a.lawful.shape.based (m.base + k) n.0 n.1 in
    let same : Some w.row ≡ Some m = sym w.is ∙ (ap (slice_get t.rows.nodes) (ap (λ (z : SlotRow). z.node) n.2 ∙ own) ∙ g) in
    let base : w.row.base ≡ m.base = ap base_in same in
    let number = w.number in
    let index : n.0.index ≡ k = omega arith in
    let long = length-map (slots_at m.kind) (λ (f : Field). f.list) in
    let within : k < length (lists_at m.kind) = subst (λ z. z < length (lists_at m.kind)) index (subst (λ z. n.0.index < length (lists_at z)) (ap kind_in same) w.within) in
    first_some t A j k (length (slots_at m.kind)) m r a v g refl (omega arith) d

pub first_within : (t : Table) (A : Linked) (s : ℕ) (r : SlotRow) → IsTable t.rows → Shows t A → slice_get t.rows.slots s ≡ Some r → IfSome r.first (λ p. p < length A.forest.places)
first_within t A s r a v g =
    let n = slot_back t.rows s r a g in
    let c = a.stands.chains s n.0 n.1 in
    let long = long_places t.rows in
    if_some (λ p. p < length A.forest.places) r.first
    (λ p e.
    let m = head_among n.0.kids p (ap (λ (z : SlotRow). z.first) n.2 ∙ e) in
    let row = chain_row t.rows.places s n.0.kids None None p c m in
    let lt = slice_get_within t.rows.places p row.0 row.1 in
    places_are t A p v (omega arith))

-- A list slot.
listed_slot : (kind : Kind) (k : ℕ) (o : Option Field) → slice_get (slots_at kind) k ≡ o → list_some o ≡ true → k < length (slots_at kind)
listed_slot kind k None g e = absurd (cc)
listed_slot kind k (Some f) g e = slice_get_within (slots_at kind) k f g

pub list_slot_is : (t : Table) (A : Linked) (j k : ℕ) (m : Node) → IsTable t.rows → Shows t A → slice_get t.rows.nodes j ≡ Some m → is_list_at (kind_at A.forest j) k ≡ true
    → (m.base + k < 2 ^ 32) × IsListSlot A.forest (m.base + k)
list_slot_is t A j k m a v g l =
    let flag : is_list_at m.kind k ≡ true = ap (λ z. is_list_at z k) (kind_told t A j m v g) ∙ l in
    let within = listed_slot m.kind k (slice_get (slots_at m.kind) k) refl flag in
    let w = a.lawful.shape.slotted j k m g (slots_of m.kind k (length (slots_at m.kind)) refl within) in (
      slot_fits t j k (length (slots_at m.kind)) m a g refl within,
      record { slot = w.slot; is = ap (λ (z : Linked). slice_get z.forest.slots (m.base + k)) (sym v) ∙ w.is; list = w.list ∙ flag },
    )
