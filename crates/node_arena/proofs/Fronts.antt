-- What is made behind a mark leaves the rows before it, and these can stand alone again.
use Rattle.std.proofs.Common.{◌≡◌, inl, inr, sym, ◌∙◌, ap, subst, refl, ℕ, zero, suc, ◌*◌, ◌<◌, ◌≤◌, List, [], ◌∷◌, ◌++◌, length, map, take, Option, Some, None, slice_get, arith}
use Rattle.std.proofs.lemmas.List.{length-map, length-take, take-set-le}
use Rattle.std.proofs.Math.Seq.{take-append_seam}
use Rattle.type_defs.specs.declared.kind.Kind.{Kind}
use Rattle.type_defs.specs.Fields.{lists_at}
use Rattle.node_arena.specs.declared.links.Node.{Node}
use Rattle.node_arena.specs.declared.links.PlaceRow.{PlaceRow}
use Rattle.node_arena.specs.Rows.{Rows, Table, edit, edit_row, front_rows, new_node, table_of}
use Rattle.node_arena.specs.Lists.{Among}
use Rattle.node_arena.specs.Forest.{Chain, Forest, IsBelow, IsLawful, IsPlaceOf, IsRoot, IsTable, IsRoot_row, Linked, Place, Slot, Stands, Under, itself, below, core_of, forest_of, front_forest, linked_of, make_of, new_slots, new_places, place_of}
use Rattle.node_arena.specs.Fronts.{HasFewSlots, MayGoBefore}
use Rattle.node_arena.proofs.Pushes.{push_new}
use Rattle.node_arena.proofs.Standing.{table_from}
use Rattle.node_arena.proofs.Methods.{Shows, Ends_as}

-- The first items of lists.
pub take_within : {A : Type 0} → (n : ℕ) (xs : List A) → length (take n xs) ≡ n → n ≤ length xs
take_within n xs e = let h = length-take n xs in omega arith

take_edit_row : {A : Type 0} → (n : ℕ) (xs : List A) (i : ℕ) (f : A → A) (o : Option A) → n ≤ i → take n (edit_row xs i f o) ≡ take n xs
take_edit_row n xs i f None le = refl
take_edit_row n xs i f (Some x) le = take-set-le n xs i (f x) le

pub take_edit : {A : Type 0} → (n : ℕ) (xs : List A) (i : ℕ) (f : A → A) → n ≤ i → take n (edit xs i f) ≡ take n xs
take_edit n xs i f le = take_edit_row n xs i f (slice_get xs i) le

pub take_got : {A : Type 0} → (n : ℕ) (xs : List A) (i : ℕ) (x : A) → slice_get (take n xs) i ≡ Some x → (i < n) × (slice_get xs i ≡ Some x)
take_got zero xs i x g = absurd (cc)
take_got (suc n) [] i x g = absurd (cc)
take_got (suc n) (y ∷ ys) zero x g = (omega arith, g)
take_got (suc n) (y ∷ ys) (suc i) x g = let h = take_got n ys i x g in let lt = h.0 in (omega arith, h.1)

pub got_take : {A : Type 0} → (n : ℕ) (xs : List A) (i : ℕ) (x : A) → i < n → slice_get xs i ≡ Some x → slice_get (take n xs) i ≡ Some x
got_take zero xs i x lt g = absurd (omega arith)
got_take (suc n) [] i x lt g = g
got_take (suc n) (y ∷ ys) zero x lt g = g
got_take (suc n) (y ∷ ys) (suc i) x lt g = got_take n ys i x (omega arith) g

take_map : {A B : Type 0} → (f : A → B) (n : ℕ) (xs : List A) → map f (take n xs) ≡ take n (map f xs)
take_map f zero xs = refl
take_map f (suc n) [] = refl
take_map f (suc n) (x ∷ xs) = ap (λ z. f x ∷ z) (take_map f n xs)

-- Old places are places of old nodes, and old nodes stand in old places.
owner_old : (n s p : ℕ) (G : Forest) → IsLawful (front_forest n s p G) → (i x : ℕ) → x < p → IsPlaceOf G i x → i < n
owner_old n s p G old i x lt h =
    let place = got_take p G.places x h.place lt h.is in
    let owned = old.lists.owned x h.number h.place place h.owner in
    let slot = take_got s G.slots h.number owned.slot owned.is in
    let base = old.shape.based h.number owned.slot owned.is in
    let node = take_got n G.nodes owned.slot.node base.row base.is in
    let same : owned.slot ≡ h.slot = cc (slot.1, h.slot_is) in
    subst (λ z. z < n) (ap (λ (z : Slot). z.node) same ∙ h.node) node.0

seat_old : (n s p : ℕ) (G : Forest) → IsLawful (front_forest n s p G) → IsLawful G → (i x k : ℕ) → k < n → IsBelow G i x k → x < p
seat_old n s p G old now i x k lt b =
    let stands = now.seats.seated x k b.at.place b.at.is b.node in
    let row = got_take n G.nodes k stands.row lt stands.is in
    let seat = old.seats.seat k x stands.row row stands.at in
    (take_got p G.places x seat.place seat.is).0

under_old : (n s p : ℕ) (G : Forest) → IsLawful (front_forest n s p G) → IsLawful G → (i k : ℕ) → k < n → Under G i k → i < n
under_old n s p G old now i k lt itself = lt
under_old n s p G old now i k lt (below b u) =
    owner_old n s p G old i _ (seat_old n s p G old now i _ _ (under_old n s p G old now _ k lt u) b) b.at

-- a root that was made later holds no old place
pub goes_before : (n s p : ℕ) (G : Forest) → IsLawful (front_forest n s p G) → IsLawful G → (j : ℕ) → n ≤ j → IsRoot G j → MayGoBefore G p j
goes_before n s p G old now j le root = λ x lt. record {
  root = root;
  apart = λ h.
      let node = owner_old n s p G old h.node x lt h.at in
      let i = under_old n s p G old now j h.node node h.under in
      absurd (omega arith);
}

abbrev forest_with : List Node → List Slot → List Place → Forest
forest_with nodes slots places = record { nodes = nodes; slots = slots; places = places }

-- the first items of a longer list
take_front : {A : Type 0} → (xs ys : List A) → take (length xs) (xs ++ ys) ≡ xs
take_front xs ys = take-append_seam xs ys

front_of_longer : (F : Forest) (nodes : List Node) (slots : List Slot) (places : List Place)
    → front_forest (length F.nodes) (length F.slots) (length F.places) (forest_with (F.nodes ++ nodes) (F.slots ++ slots) (F.places ++ places)) ≡ F
front_of_longer F nodes slots places =
    ap (λ z. forest_with z (take (length F.slots) (F.slots ++ slots)) (take (length F.places) (F.places ++ places))) (take_front F.nodes nodes)
    ∙ (ap (λ z. forest_with F.nodes z (take (length F.places) (F.places ++ places))) (take_front F.slots slots)
    ∙ ap (λ z. forest_with F.nodes F.slots z) (take_front F.places places))

pub made_root : (F : Forest) (kind : Kind) → IsRoot (make_of F kind) (length F.nodes)
made_root F kind = subst IsRoot_row (sym (push_new F.nodes (new_node kind (length F.slots)))) refl

pub made_goes : (F : Forest) (kind : Kind) → IsLawful F → IsLawful (make_of F kind) → MayGoBefore (make_of F kind) (length F.places) (length F.nodes)
made_goes F kind old now =
    let e = front_of_longer F (new_node kind (length F.slots) ∷ []) (new_slots (length F.nodes) (length F.places) 0 (lists_at kind)) (new_places (length F.slots) (lists_at kind)) in
    goes_before (length F.nodes) (length F.slots) (length F.places) (make_of F kind) (subst IsLawful (sym e) old) now (length F.nodes) (omega arith)
    (made_root F kind)

-- The table cut short.
chain_front : (p : ℕ) (ps : List PlaceRow) (s : ℕ) (xs : List ℕ) (prev : Option ℕ) → ((x : ℕ) → Among x xs → x < p) → Chain ps s prev xs None → Chain (take p ps) s prev xs None
chain_front p ps s [] prev h c = tt
chain_front p ps s (x ∷ xs) prev h c =
    (record { node = c.0.node; is = got_take p ps x _ (h x (inl refl)) c.0.is }, chain_front p ps s xs (Some x) (λ y m. h y (inr m)) c.1)

stands_front : (n s p : ℕ) (t : Rows) → IsTable t → IsLawful (front_forest n s p (forest_of t)) → Stands (front_rows n s p t) (front_forest n s p (forest_of t))
stands_front n s p t a old = record {
  nodes = refl;
  slots = ap (take s) a.stands.slots ∙ sym (take_map core_of s (forest_of t).slots);
  places = take_map place_of p t.places;
  chains = λ i slot g.
      let at = take_got s (forest_of t).slots i slot g in
      chain_front p t.places i slot.kids None
      (λ x m. let o = old.lists.owner i x slot g m in (take_got p (forest_of t).places x o.place o.is).0)
      (a.stands.chains i slot at.1);
}

pub lawful_told : (t : Table) (A : Linked) → IsTable t.rows → Shows t A → IsLawful A.forest
lawful_told t A a v = subst (λ (z : Linked). IsLawful z.forest) v a.lawful

slots_long : (t : Rows) → IsTable t → length t.slots ≡ length (forest_of t).slots
slots_long t a = ap length a.stands.slots ∙ length-map (forest_of t).slots core_of

pub slots_count : (t : Table) (A : Linked) → IsTable t.rows → Shows t A → length t.rows.slots ≡ length A.forest.slots
slots_count t A a v = slots_long t.rows a ∙ ap (λ (z : Linked). length z.forest.slots) v

pub slots_few : (t : Table) (A : Linked) → IsTable t.rows → Shows t A → length A.forest.slots ≤ 4 * length A.forest.nodes
slots_few t A a v = subst (λ (z : Linked). length z.forest.slots ≤ 4 * length z.forest.nodes) v (let e = slots_long t.rows a in let f = a.few_slots in omega arith)

cut_keeps : (t : Rows) (n s p spare : ℕ) → IsTable t → IsLawful (front_forest n s p (forest_of t)) → HasFewSlots (front_forest n s p (forest_of t)) → Ends_as (table_of (front_rows n s p t) spare) (linked_of (front_forest n s p (forest_of t)) spare)
cut_keeps t n s p spare a old few =
    let nodes = length-take n t.nodes in
    let slots = ap length (ap (take s) a.stands.slots ∙ sym (take_map core_of s (forest_of t).slots)) ∙ length-map (take s (forest_of t).slots) core_of in
    let places = length-take p t.places in
    let f = a.few_nodes in
    let g = a.few_places in
    let fewer : length (take s (forest_of t).slots) ≤ 4 * length (take n t.nodes) = few in
    let k = table_from (front_rows n s p t) (front_forest n s p (forest_of t)) (stands_front n s p t a old) old (omega arith) (omega arith) (omega arith) in
    (k.0, ap (λ z. linked_of z spare) k.1)

pub cut_case : (t u : Table) (A : Linked) (n s p spare : ℕ) → IsTable t.rows → Shows t A → IsLawful (front_forest n s p A.forest) → HasFewSlots (front_forest n s p A.forest) → u ≡ table_of (front_rows n s p t.rows) spare
    → Ends_as u (linked_of (front_forest n s p A.forest) spare)
cut_case t u A n s p spare a v old few e =
    subst (λ (z : Linked). Ends_as u (linked_of (front_forest n s p z.forest) spare)) v
    (subst (λ z. Ends_as z (linked_of (front_forest n s p (forest_of t.rows)) spare)) (sym e)
    (cut_keeps t.rows n s p spare a (subst (λ (z : Linked). IsLawful (front_forest n s p z.forest)) (sym v) old) (subst (λ (z : Linked). HasFewSlots (front_forest n s p z.forest)) (sym v) few)))

pub made_apart : (t u : Table) (A : Linked) (kind : Kind) (n j : ℕ) → IsTable t.rows → Shows t A → IsTable u.rows → Shows u (linked_of (make_of A.forest kind) n) → j ≡ length t.rows.nodes → MayGoBefore (forest_of u.rows) (length A.forest.places) j
made_apart t u A kind n j a v b w h =
    let e : forest_of u.rows ≡ make_of A.forest kind = ap (λ (z : Linked). z.forest) w in
    let old : IsLawful A.forest = lawful_told t A a v in
    let now : IsLawful (make_of A.forest kind) = subst IsLawful e b.lawful in
    let number : j ≡ length A.forest.nodes = h ∙ ap (λ (z : Linked). length z.forest.nodes) v in
    subst (λ z. MayGoBefore z (length A.forest.places) j) (sym e)
    (subst (λ z. MayGoBefore (make_of A.forest kind) (length A.forest.places) z) (sym number) (made_goes A.forest kind old now))
