-- A new node with its slots.
use Rattle.std.proofs.Common.{◌≡◌, ◌⊎◌, inl, inr, ⊎_elim, sym, ◌∙◌, ap, subst, refl, ℕ, zero, suc, ◌+◌, ◌<◌, ◌≤◌, ◌^◌, Bool, true, false, List, [], ◌∷◌, ◌++◌, length, map, Some, None, slice_get, arith, length-append}
use Rattle.std.proofs.lemmas.List.{length-map}
use Rattle.std.proofs.lemmas.Option.{slice_get_within}
use Rattle.type_defs.specs.declared.kind.Kind.{Kind}
use Rattle.type_defs.specs.Fields.{Field, slots_at, lists_at, is_list_at, list_some}
use Rattle.type_defs.proofs.FieldTable.{slots_at_few}
use Rattle.node_arena.specs.declared.links.Node.{Node}
use Rattle.node_arena.specs.declared.links.PlaceRow.{PlaceRow}
use Rattle.node_arena.specs.Rows.{Rows, new_node, after_slot, slot_row, slot_rows, place_rows, made_rows, empty_row}
use Rattle.node_arena.specs.Lists.{Among, Distinct}
use Rattle.node_arena.specs.Forest.{Forest, Slot, Place, Chain, Stands, IsBelow, HasShape, HasLists, HasSeats, IsLawful, IsTable, core_of, place_of, forest_of, empty_place, new_slot, new_slots, new_places, make_of}
use Rattle.node_arena.proofs.Pushes.{push_old, push_new, push_cases, append_old, append_new, append_cases, item_at, mapped, mapped_back, map_append}
use Rattle.node_arena.proofs.Linking.{chain_frame, chain_row}
use Rattle.node_arena.proofs.Endings.{ends_fewer}
use Rattle.node_arena.proofs.Standing.{Keeps, table_from, long_places}

-- The rows of the new slots and places.
abbrev row_alone : Place → PlaceRow
row_alone q = record { owner = q.owner; node = q.node; next = None; prev = None }

row_told : (j q k : ℕ) (b : Bool) → slot_row j q k b ≡ core_of (new_slot j q k b)
row_told j q k true = refl
row_told j q k false = refl

slot_rows_told : (j q k : ℕ) (bs : List Bool) → slot_rows j q k bs ≡ map core_of (new_slots j q k bs)
slot_rows_told j q k [] = refl
slot_rows_told j q k (b ∷ bs) =
    ap (λ z. z ∷ slot_rows j (after_slot q b) (suc k) bs) (row_told j q k b) ∙ ap (λ z. core_of (new_slot j q k b) ∷ z) (slot_rows_told j (after_slot q b) (suc k) bs)

place_rows_told : (s : ℕ) (bs : List Bool) → place_rows s bs ≡ map row_alone (new_places s bs)
place_rows_told s [] = refl
place_rows_told s (true ∷ bs) = place_rows_told (suc s) bs
place_rows_told s (false ∷ bs) = ap (λ z. empty_row (Some s) ∷ z) (place_rows_told (suc s) bs)

places_told : (s : ℕ) (bs : List Bool) → map place_of (place_rows s bs) ≡ new_places s bs
places_told s [] = refl
places_told s (true ∷ bs) = places_told (suc s) bs
places_told s (false ∷ bs) = ap (λ z. empty_place s ∷ z) (places_told (suc s) bs)

-- A new slot: an empty list, or one new place, which is its own.
pub record HasPlace (s q i : ℕ) (bs : List Bool) (kids : List ℕ) : Type 0 where
  pub at : ℕ
  pub kids_are : kids ≡ (q + at) ∷ []
  pub item : slice_get (new_places s bs) at ≡ Some (empty_place (s + i))

pub record IsNewSlot (s j q k i : ℕ) (bs : List Bool) (n : Slot) : Type 0 where
  pub node : n.node ≡ j
  pub index : n.index ≡ k + i
  pub flag : slice_get bs i ≡ Some n.list
  pub kids : ((n.list ≡ true) × (n.kids ≡ [])) ⊎ ((n.list ≡ false) × HasPlace s q i bs n.kids)

kids_later : (s q i : ℕ) (b : Bool) (bs : List Bool) (n : Slot) → ((n.list ≡ true) × (n.kids ≡ [])) ⊎ ((n.list ≡ false) × HasPlace (suc s) (after_slot q b) i bs n.kids)
    → ((n.list ≡ true) × (n.kids ≡ [])) ⊎ ((n.list ≡ false) × HasPlace s q (suc i) (b ∷ bs) n.kids)
kids_later s q i true bs n w =
    ⊎_elim inl
    (λ e.
    let at : suc s + i ≡ s + suc i = omega arith in
    inr (e.0, record { at = e.1.at; kids_are = e.1.kids_are; item = e.1.item ∙ ap (λ z. Some (empty_place z)) at }))
    w
kids_later s q i false bs n w =
    ⊎_elim inl
    (λ e.
    let at : suc s + i ≡ s + suc i = omega arith in
    let number : suc q + e.1.at ≡ q + suc e.1.at = omega arith in
    inr (e.0, record { at = suc e.1.at; kids_are = e.1.kids_are ∙ ap (λ z. z ∷ []) number; item = e.1.item ∙ ap (λ z. Some (empty_place z)) at }))
    w

new_here : (s j q k : ℕ) (b : Bool) (bs : List Bool) → IsNewSlot s j q k 0 (b ∷ bs) (new_slot j q k b)
new_here s j q k true bs = record { node = refl; index = omega arith; flag = refl; kids = inl (refl, refl) }
new_here s j q k false bs =
    let at : s ≡ s + 0 = omega arith in
    let number : q ≡ q + 0 = omega arith in
    record { node = refl; index = omega arith; flag = refl; kids = inr (refl, record { at = 0; kids_are = ap (λ z. z ∷ []) number; item = ap (λ z. Some (empty_place z)) at }) }

new_slot_is : (s j q k i : ℕ) (bs : List Bool) (n : Slot) → slice_get (new_slots j q k bs) i ≡ Some n → IsNewSlot s j q k i bs n
new_slot_is s j q k i [] n g = absurd (cc)
new_slot_is s j q k zero (b ∷ bs) n g = let e : new_slot j q k b ≡ n = cc in subst (IsNewSlot s j q k 0 (b ∷ bs)) e (new_here s j q k b bs)
new_slot_is s j q k (suc i) (b ∷ bs) n g =
    let w = new_slot_is (suc s) j (after_slot q b) (suc k) i bs n g in
    let at = w.index in
    record { node = w.node; index = omega arith; flag = w.flag; kids = kids_later s q i b bs n w.kids }

-- a new place is that of a new slot
pub record IsNewPlace (s j q k m : ℕ) (bs : List Bool) (z : Place) : Type 0 where
  pub index : ℕ
  pub slot : Slot
  pub is : slice_get (new_slots j q k bs) index ≡ Some slot
  pub place : z ≡ empty_place (s + index)
  pub kids : slot.kids ≡ (q + m) ∷ []

new_place_is : (s j q k m : ℕ) (bs : List Bool) (z : Place) → slice_get (new_places s bs) m ≡ Some z → IsNewPlace s j q k m bs z
new_place_is s j q k m [] z g = absurd (cc)
new_place_is s j q k m (true ∷ bs) z g =
    let w = new_place_is (suc s) j q (suc k) m bs z g in
    let at : suc s + w.index ≡ s + suc w.index = omega arith in
    record { index = suc w.index; slot = w.slot; is = w.is; place = w.place ∙ ap empty_place at; kids = w.kids }
new_place_is s j q k zero (false ∷ bs) z g =
    let e : empty_place s ≡ z = cc in
    let at : s ≡ s + 0 = omega arith in
    let number : q ≡ q + 0 = omega arith in
    record { index = 0; slot = new_slot j q k false; is = refl; place = sym e ∙ ap empty_place at; kids = ap (λ y. y ∷ []) number }
new_place_is s j q k (suc m) (false ∷ bs) z g =
    let w = new_place_is (suc s) j (suc q) (suc k) m bs z g in
    let at : suc s + w.index ≡ s + suc w.index = omega arith in
    let number : suc q + m ≡ q + suc m = omega arith in
    record { index = suc w.index; slot = w.slot; is = w.is; place = w.place ∙ ap empty_place at; kids = w.kids ∙ ap (λ y. y ∷ []) number }

new_slots_length : (j q k : ℕ) (bs : List Bool) → length (new_slots j q k bs) ≡ length bs
new_slots_length j q k [] = refl
new_slots_length j q k (b ∷ bs) = ap suc (new_slots_length j (after_slot q b) (suc k) bs)

-- the form of a kind's slot, by the list of forms
list_told : (kind : Kind) (k : ℕ) (b : Bool) → slice_get (lists_at kind) k ≡ Some b → b ≡ is_list_at kind k
list_told kind k b g = let w = mapped_back (λ (f : Field). f.list) (slots_at kind) k b g in sym w.2 ∙ sym (ap list_some w.1)

-- The laws of the forest with a new node.
module _ (F : Forest) (kind : Kind) where
  abbrev S : ℕ
  S = length F.slots

  abbrev P : ℕ
  P = length F.places

  abbrev J : ℕ
  J = length F.nodes

  abbrev bs : List Bool
  bs = lists_at kind

  abbrev slots' : List Slot
  slots' = new_slots J P 0 bs

  abbrev places' : List Place
  places' = new_places S bs

  made_shape : HasShape F.nodes F.slots → HasShape (F.nodes ++ new_node kind S ∷ []) (F.slots ++ slots')
  made_shape w = record {
    slotted = λ j k m g lt.
        ⊎_elim
        (λ e. let h = w.slotted j k m e lt in record { slot = h.slot; is = append_old F.slots slots' (m.base + k) h.slot h.is; node = h.node; index = h.index; list = h.list })
        (λ e.
        let kinds : m.kind ≡ kind = ap (λ (z : Node). z.kind) e.1 in
        let base : m.base ≡ S = ap (λ (z : Node). z.base) e.1 in
        let lt' : k < length bs = subst (λ z. k < length (lists_at z)) kinds lt in
        let long = new_slots_length J P 0 bs in
        let item = item_at slots' k (omega arith) in
        let new = new_slot_is S J P 0 k bs item.0 item.1 in
        let number = new.index in
        record {
          slot = item.0;
          is = ap (λ z. slice_get (F.slots ++ slots') (z + k)) base ∙ (append_new F.slots slots' k ∙ item.1);
          node = new.node ∙ sym e.0;
          index = omega arith;
          list = list_told kind k item.0.list new.flag ∙ ap (λ z. is_list_at z k) (sym kinds);
        })
        (push_cases F.nodes j (new_node kind S) m g);
    based = λ s n g.
        ⊎_elim
        (λ e. let h = w.based s n e in record { row = h.row; is = push_old F.nodes n.node (new_node kind S) h.row h.is; number = h.number; within = h.within })
        (λ e.
        let new = new_slot_is S J P 0 e.at bs n e.item in
        let number = new.index in
        let at = e.is in
        let lt = slice_get_within bs e.at n.list new.flag in
        record {
          row = new_node kind S;
          is = ap (slice_get (F.nodes ++ new_node kind S ∷ [])) new.node ∙ push_new F.nodes (new_node kind S);
          number = omega arith;
          within = omega arith;
        })
        (append_cases F.slots slots' s n g);
  }

  made_lists : HasLists F.slots F.places → HasLists (F.slots ++ slots') (F.places ++ places')
  made_lists w = record {
    owned = λ x s q g o.
        ⊎_elim
        (λ e. let d = w.owned x s q e o in record { slot = d.slot; is = append_old F.slots slots' s d.slot d.is; among = d.among })
        (λ e.
        let new = new_place_is S J P 0 e.at bs q e.item in
        let owners : Some (S + new.index) ≡ Some s = ap (λ (z : Place). z.owner) (sym new.place) ∙ o in
        let number : S + new.index ≡ s = cc in
        record {
          slot = new.slot;
          is = ap (slice_get (F.slots ++ slots')) (sym number) ∙ (append_new F.slots slots' new.index ∙ new.is);
          among = subst (Among x) (sym new.kids) (inl e.is);
        })
        (append_cases F.places places' x q g);
    owner = λ s x n g a.
        ⊎_elim
        (λ e. let d = w.owner s x n e a in record { place = d.place; is = append_old F.places places' x d.place d.is; owner = d.owner })
        (λ e.
        let new = new_slot_is S J P 0 e.at bs n e.item in
        ⊎_elim
        (λ h. absurd (subst (Among x) h.1 a))
        (λ h.
        let at : x ≡ P + h.1.at = ⊎_elim (λ z. z) (λ z. absurd z) (subst (Among x) h.1.kids_are a) in
        record {
          place = empty_place (S + e.at);
          is = ap (slice_get (F.places ++ places')) at ∙ (append_new F.places places' h.1.at ∙ h.1.item);
          owner = ap Some (sym e.is);
        })
        new.kids)
        (append_cases F.slots slots' s n g);
    distinct = λ s n g.
        ⊎_elim
        (λ e. w.distinct s n e)
        (λ e.
        let new = new_slot_is S J P 0 e.at bs n e.item in
        ⊎_elim (λ h. subst Distinct (sym h.1) tt) (λ h. subst Distinct (sym h.1.kids_are) ((λ z. z), tt)) new.kids)
        (append_cases F.slots slots' s n g);
    single = λ s n g lf.
        ⊎_elim
        (λ e. w.single s n e lf)
        (λ e.
        let new = new_slot_is S J P 0 e.at bs n e.item in
        ⊎_elim (λ h. let flags = sym lf ∙ h.0 in absurd (cc)) (λ h. record { place = P + h.1.at; is = h.1.kids_are }) new.kids)
        (append_cases F.slots slots' s n g);
  }

  made_seats : HasSeats F.nodes F.places → HasSeats (F.nodes ++ new_node kind S ∷ []) (F.places ++ places')
  made_seats w = record {
    seated = λ x j q g h.
        ⊎_elim
        (λ e. let d = w.seated x j q e h in record { row = d.row; is = push_old F.nodes j (new_node kind S) d.row d.is; at = d.at })
        (λ e.
        let new = new_place_is S J P 0 e.at bs q e.item in
        let none : None ≡ Some j = ap (λ (z : Place). z.node) (sym new.place) ∙ h in
        absurd (cc))
        (append_cases F.places places' x q g);
    seat = λ j x m g a.
        ⊎_elim
        (λ e. let d = w.seat j x m e a in record { place = d.place; is = append_old F.places places' x d.place d.is; node = d.node })
        (λ e. let none : None ≡ Some x = ap (λ (z : Node). z.at) (sym e.1) ∙ a in absurd (cc))
        (push_cases F.nodes j (new_node kind S) m g);
  }

  below_made : HasLists F.slots F.places → (i x j : ℕ) → IsBelow (make_of F kind) i x j → IsBelow F i x j
  below_made w i x j b =
      let h = b.at in
      ⊎_elim
      (λ e.
      ⊎_elim
      (λ d. record { at = record { place = h.place; is = e; number = h.number; owner = h.owner; slot = h.slot; slot_is = d; node = h.node }; node = b.node })
      (λ d.
      let own = w.owned x h.number h.place e h.owner in
      let lt = slice_get_within F.slots h.number own.slot own.is in
      let at = d.is in
      absurd (omega arith))
      (append_cases F.slots slots' h.number h.slot h.slot_is))
      (λ e.
      let new = new_place_is S J P 0 e.at bs h.place e.item in
      let none : None ≡ Some j = ap (λ (z : Place). z.node) (sym new.place) ∙ b.node in
      absurd (cc))
      (append_cases F.places places' x h.place h.is)

  pub lawful_made : IsLawful F → IsLawful (make_of F kind)
  lawful_made l = record {
    shape = made_shape l.shape;
    lists = made_lists l.lists;
    seats = made_seats l.seats;
    root = record { place = l.root.place; is = append_old F.places places' 0 l.root.place l.root.is; owner = l.root.owner };
    ended = λ i. ends_fewer F (make_of F kind) (below_made l.lists) i (l.ended i);
  }

-- The table with a new node.
stands_made : (t : Rows) (F : Forest) (kind : Kind) → Stands t F → length t.slots ≡ length F.slots → length t.places ≡ length F.places → Stands (made_rows t kind) (make_of F kind)
stands_made t F kind w es ep =
    let bs = lists_at kind in
    let en = ap length w.nodes in
    let rows = place_rows (length t.slots) bs in
    record {
      nodes = ap (λ z. z ++ new_node kind (length t.slots) ∷ []) w.nodes ∙ ap (λ z. F.nodes ++ new_node kind z ∷ []) es;
      slots =
          ap (λ z. z ++ slot_rows (length t.nodes) (length t.places) 0 bs) w.slots
          ∙ (ap (λ z. map core_of F.slots ++ z) (slot_rows_told (length t.nodes) (length t.places) 0 bs)
          ∙ (ap (λ z. map core_of F.slots ++ map core_of (new_slots z (length t.places) 0 bs)) en
          ∙ (ap (λ z. map core_of F.slots ++ map core_of (new_slots (length F.nodes) z 0 bs)) ep ∙ sym (map_append core_of F.slots (new_slots (length F.nodes) (length F.places) 0 bs)))));
      places =
          map_append place_of t.places rows
          ∙ (ap (λ z. z ++ map place_of rows) w.places ∙ (ap (λ z. F.places ++ z) (places_told (length t.slots) bs) ∙ ap (λ z. F.places ++ new_places z bs) es));
      chains = λ i n g.
          ⊎_elim
          (λ e.
          let c = w.chains i n e in
          chain_frame t.places (t.places ++ rows) i n.kids None None (λ x m. let r = chain_row t.places i n.kids None None x c m in append_old t.places rows x r.0 r.1 ∙ sym r.1) c)
          (λ e.
          let new = new_slot_is (length F.slots) (length F.nodes) (length F.places) 0 e.at bs n e.item in
          ⊎_elim
          (λ h. subst (λ z. Chain (t.places ++ rows) i None z None) (sym h.1) tt)
          (λ h.
          let row : slice_get rows h.1.at ≡ Some (row_alone (empty_place (length F.slots + e.at))) =
          ap (λ z. slice_get (place_rows z bs) h.1.at) es ∙ (ap (λ z. slice_get z h.1.at) (place_rows_told (length F.slots) bs)
          ∙ mapped row_alone (new_places (length F.slots) bs) h.1.at (empty_place (length F.slots + e.at)) h.1.item) in
          let at : slice_get (t.places ++ rows) (length F.places + h.1.at) ≡ Some (row_alone (empty_place (length F.slots + e.at))) =
          ap (λ z. slice_get (t.places ++ rows) (z + h.1.at)) (sym ep) ∙ (append_new t.places rows h.1.at ∙ row) in
          subst (λ z. Chain (t.places ++ rows) i None z None) (sym h.1.kids_are)
          (record { node = None; is = at ∙ ap (λ z. Some (row_alone (empty_place z))) (sym e.is) }, tt))
          new.kids)
          (append_cases F.slots (new_slots (length F.nodes) (length F.places) 0 bs) i n g);
    }

few_lists : (kind : Kind) → length (lists_at kind) ≤ 4
few_lists kind = let e = length-map (slots_at kind) (λ (f : Field). f.list) in let h = slots_at_few kind in omega arith

pub keeps_made : (t : Rows) (kind : Kind) → IsTable t → length t.nodes < 2 ^ 22 → length (make_of (forest_of t) kind).places ≤ 2 ^ 26 → Keeps (made_rows t kind) (make_of (forest_of t) kind)
keeps_made t kind a few places =
    let F = forest_of t in
    let bs = lists_at kind in
    let es : length t.slots ≡ length F.slots = sym (length-map t.slots _) in
    let st = stands_made t F kind a.stands es (sym (long_places t)) in
    let nodes = length-append t.nodes (new_node kind (length t.slots) ∷ []) in
    let slots = length-append t.slots (slot_rows (length t.nodes) (length t.places) 0 bs) in
    let rows : length (slot_rows (length t.nodes) (length t.places) 0 bs) ≡ length bs =
    ap length (slot_rows_told (length t.nodes) (length t.places) 0 bs) ∙ (length-map (new_slots (length t.nodes) (length t.places) 0 bs) core_of ∙ new_slots_length (length t.nodes) (length t.places) 0 bs) in
    let lists = few_lists kind in
    let had = a.few_slots in
    let long : length (made_rows t kind).places ≡ length (make_of F kind).places = sym (long_places (made_rows t kind)) ∙ ap length st.places in
    table_from (made_rows t kind) (make_of F kind) st (lawful_made F kind a.lawful) (omega arith) (omega arith) (omega arith)
