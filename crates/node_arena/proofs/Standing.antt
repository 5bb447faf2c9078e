-- Changes of the table stand for changes of the forest.
use Rattle.std.proofs.Common.{◌≡◌, ⊎_elim, sym, ◌∙◌, ap, subst, refl, ℕ, ◌*◌, ◌<◌, ◌≤◌, ◌^◌, true, List, [], ◌∷◌, ◌++◌, length, map, Option, Some, None, slice_get, arith, length-append}
use Rattle.std.proofs.lemmas.List.{length-map}
use Rattle.node_arena.specs.declared.links.Node.{Node}
use Rattle.node_arena.specs.declared.links.SlotRow.{SlotRow}
use Rattle.node_arena.specs.declared.links.PlaceRow.{PlaceRow}
use Rattle.node_arena.specs.Rows.{Rows, rows_of, edit, standing_at, starting, holding_row, linked_rows, detached_rows}
use Rattle.node_arena.specs.Lists.{head_or, last_or, without}
use Rattle.node_arena.specs.Forest.{Forest, Slot, Place, Chain, Stands, IsLawful, IsTable, Holds, core_of, place_of, forest_of, with_kids, holding, reseated, grown, left, empty_place}
use Rattle.node_arena.proofs.Edits.{was, becomes, length_edit}
use Rattle.node_arena.proofs.Pushes.{map_edit, map_edit_kept}
use Rattle.node_arena.proofs.Splits.{IsGap}
use Rattle.node_arena.proofs.Gaps.{left_slots, grown_places, linked_is, IsGrowing, grown_chain, grown_other, grown_told}
use Rattle.node_arena.proofs.Leaving.{left_row_places, detached_is, IsLeaving, leaving_ends, left_chain, left_other, left_row_told}
use Rattle.node_arena.proofs.Walks.{stands_for_one}
use Rattle.node_arena.proofs.Shapes.{shape_kids, shape_seat}
use Rattle.node_arena.proofs.Seats.{seats_clear, seats_fill, seats_place, seats_left, root_held, root_pushed, root_left}
use Rattle.node_arena.proofs.Owners.{lists_held, lists_grown, lists_left}
use Rattle.node_arena.proofs.Endings.{ends_fewer, below_cleared, ends_filled, below_grown, below_left}

-- the table is one that stands for a lawful forest, which is this
abbrev pub Keeps : Rows → Forest → Type 0
Keeps t F = IsTable t × (forest_of t ≡ F)

pub table_from : (t : Rows) (F : Forest) → Stands t F → IsLawful F → length t.nodes ≤ 2 ^ 22 → length t.slots ≤ 4 * length t.nodes → length t.places ≤ 2 ^ 26 → Keeps t F
table_from t F s l a b c =
    let e = stands_for_one t F s l in
    (record { stands = subst (Stands t) (sym e) s; lawful = subst IsLawful (sym e) l; few_nodes = a; few_slots = b; few_places = c }, e)

-- A node goes out of a place, or comes into it.
abbrev pub reseated_rows : Rows → ℕ → ℕ → Option ℕ → Option ℕ → Rows
reseated_rows t j p at to = record t { nodes = edit t.nodes j (standing_at at); places = edit t.places p (holding_row to) }

chain_held : (ps : List PlaceRow) (p s : ℕ) (to : Option ℕ) (xs : List ℕ) (prev next : Option ℕ) → Chain ps s prev xs next → Chain (edit ps p (holding_row to)) s prev xs next
chain_held ps p s to [] prev next c = tt
chain_held ps p s to (x ∷ xs) prev next c =
    let w = becomes ps p (holding_row to) x (record { owner = Some s; node = c.0.node; next = head_or xs next; prev = prev }) c.0.is in
    (⊎_elim (λ e. record { node = to; is = w.is ∙ ap Some e.1 }) (λ e. record { node = c.0.node; is = w.is ∙ ap Some e.1 }) w.how, chain_held ps p s to xs (Some x) next c.1)

stands_reseated : (t : Rows) (F : Forest) (j p : ℕ) (at to : Option ℕ) → Stands t F → Stands (reseated_rows t j p at to) (reseated F j p at to)
stands_reseated t F j p at to w = record {
  nodes = ap (λ z. edit z j (standing_at at)) w.nodes;
  slots = w.slots;
  places = map_edit place_of (holding_row to) (holding to) t.places p (λ x e. refl) ∙ ap (λ z. edit z p (holding to)) w.places;
  chains = λ s n g. chain_held t.places p s to n.kids None None (w.chains s n g);
}

keeps_reseated : (t : Rows) (F : Forest) (j p : ℕ) (at to : Option ℕ) → IsTable t → Stands t F → IsLawful (reseated F j p at to) → Keeps (reseated_rows t j p at to) (reseated F j p at to)
keeps_reseated t F j p at to a w l =
    let n = length_edit t.nodes j (standing_at at) in
    let m = length_edit t.places p (holding_row to) in
    let few = a.few_nodes in
    let slots = a.few_slots in
    let places = a.few_places in
    table_from (reseated_rows t j p at to) (reseated F j p at to) (stands_reseated t F j p at to w) l (omega arith) (omega arith) (omega arith)

lawful_cleared : (F : Forest) (p j : ℕ) (q : Place) → IsLawful F → slice_get F.places p ≡ Some q → q.node ≡ Some j → IsLawful (reseated F j p None None)
lawful_cleared F p j q l g h = record {
  shape = shape_seat F.nodes F.slots j None l.shape;
  lists = lists_held F.slots F.places p None l.lists;
  seats = seats_clear F.nodes F.places p j q l.seats g h;
  root = root_held F.places p None l.root;
  ended = λ i. ends_fewer F (reseated F j p None None) (below_cleared F j p) i (l.ended i);
}

lawful_filled : (F : Forest) (p j : ℕ) (q : Place) (m : Node) → IsLawful F → slice_get F.places p ≡ Some q → q.node ≡ None → slice_get F.nodes j ≡ Some m → m.at ≡ None → (Holds F j p → ⊥)
    → IsLawful (reseated F j p (Some p) (Some j))
lawful_filled F p j q m l g free h root apart = record {
  shape = shape_seat F.nodes F.slots j (Some p) l.shape;
  lists = lists_held F.slots F.places p (Some j) l.lists;
  seats = seats_fill F.nodes F.places p j q m l.seats g free h root;
  root = root_held F.places p (Some j) l.root;
  ended = ends_filled F p j apart l.ended;
}

pub keeps_cleared : (t : Rows) (p j : ℕ) (q : Place) → IsTable t → slice_get (forest_of t).places p ≡ Some q → q.node ≡ Some j → Keeps (reseated_rows t j p None None) (reseated (forest_of t) j p None None)
keeps_cleared t p j q a g h = keeps_reseated t (forest_of t) j p None None a a.stands (lawful_cleared (forest_of t) p j q a.lawful g h)

pub keeps_filled : (t : Rows) (p j : ℕ) (q : Place) (m : Node) → IsTable t → slice_get (forest_of t).places p ≡ Some q → q.node ≡ None → slice_get t.nodes j ≡ Some m → m.at ≡ None
    → (Holds (forest_of t) j p → ⊥) → Keeps (reseated_rows t j p (Some p) (Some j)) (reseated (forest_of t) j p (Some p) (Some j))
keeps_filled t p j q m a g free h root apart =
    keeps_reseated t (forest_of t) j p (Some p) (Some j) a a.stands (lawful_filled (forest_of t) p j q m a.lawful g free h root apart)

-- The rows of slots, where the places of one change.
last_some : (us : List ℕ) (x : ℕ) → (a : ℕ) × (last_or us (Some x) ≡ Some a)
last_some [] x = (x, refl)
last_some (u ∷ us) x = last_some us u

slots_changed : (fs : List Slot) (s : ℕ) (n : Slot) (f : List ℕ → List ℕ) (us old new : List ℕ) (to : Option ℕ) → slice_get fs s ≡ Some n → n.kids ≡ us ++ old → f n.kids ≡ us ++ new → to ≡ head_or new None
    → left_slots (map core_of fs) s (last_or us None) to ≡ map core_of (edit fs s (with_kids f))
slots_changed fs s n f [] old new to g a b e =
    sym (map_edit core_of (with_kids f) (starting to) fs s
    (λ x h.
    let both = sym g ∙ h in
    let same : n ≡ x = cc in
    let head : head_or (f x.kids) None ≡ to = ap (λ (z : Slot). head_or (f z.kids) None) (sym same) ∙ (ap (λ z. head_or z None) b ∙ sym e) in
    ap (λ z. record { node = x.node; index = x.index; list = x.list; first = z }) head))
slots_changed fs s n f (u ∷ us) old new to g a b e =
    let last = last_some us u in
    ap (λ z. left_slots (map core_of fs) s z to) last.1
    ∙ sym (map_edit_kept core_of (with_kids f) fs s
    (λ x h.
    let both = sym g ∙ h in
    let same : n ≡ x = cc in
    let head : head_or (f x.kids) None ≡ head_or x.kids None =
    ap (λ (z : Slot). head_or (f z.kids) None) (sym same) ∙ (ap (λ z. head_or z None) b ∙ (ap (λ z. head_or z None) (sym a) ∙ ap (λ (z : Slot). head_or z.kids None) same)) in
    ap (λ z. record { node = x.node; index = x.index; list = x.list; first = z }) head))

-- A new place.
stands_grown : (t : Rows) (F : Forest) (s : ℕ) (n : Slot) (f : List ℕ → List ℕ) (prev next : Option ℕ) → Stands t F → slice_get F.slots s ≡ Some n → IsGrowing t.places s n.kids (f n.kids) prev next
    → Stands (rows_of t.nodes (left_slots t.slots s prev (Some (length t.places))) (grown_places t.places s prev next)) (grown F s f)
stands_grown t F s n f prev next w g k =
    let q = Some (length t.places) in
    record {
      nodes = w.nodes;
      slots = ap (λ z. left_slots z s prev q) w.slots ∙ (ap (λ z. left_slots (map core_of F.slots) s z q) k.prev_is
          ∙ slots_changed F.slots s n f k.gap.front k.gap.back (length t.places ∷ k.gap.back) q g k.gap.small_is k.gap.big_is refl);
      places = grown_told t.places s prev next ∙ ap (λ z. z ++ empty_place s ∷ []) w.places;
      chains = λ i m h.
          let b = was F.slots s (with_kids f) i m h in
          ⊎_elim
          (λ e.
          let both = sym b.is ∙ (ap (slice_get F.slots) e.0 ∙ g) in
          let same : b.old ≡ n = cc in
          let kids : m.kids ≡ f n.kids = ap (λ (z : Slot). z.kids) e.1 ∙ ap (λ (z : Slot). f z.kids) same in
          subst (λ z. Chain (grown_places t.places s prev next) z None m.kids None) (sym e.0)
          (subst (λ z. Chain (grown_places t.places s prev next) s None z None) (sym kids) (grown_chain t.places s n.kids (f n.kids) prev next k)))
          (λ e. subst (λ (z : Slot). Chain (grown_places t.places s prev next) i None z.kids None) (sym e.1)
          (grown_other t.places s n.kids (f n.kids) prev next k i b.old.kids e.0 (w.chains i b.old b.is)))
          b.how;
    }

lawful_grown : (F : Forest) (s : ℕ) (n : Slot) (f : List ℕ → List ℕ) → IsLawful F → slice_get F.slots s ≡ Some n → n.list ≡ true → IsGap n.kids (f n.kids) (length F.places) → IsLawful (grown F s f)
lawful_grown F s n f l g list gap = record {
  shape = shape_kids F.nodes F.slots s f l.shape;
  lists = lists_grown F.slots F.places s n f l.lists g list gap;
  seats = seats_place F.nodes F.places (empty_place s) l.seats refl;
  root = root_pushed F.places (empty_place s) l.root;
  ended = λ i. ends_fewer F (grown F s f) (below_grown F s f) i (l.ended i);
}

pub long_places : (t : Rows) → length (forest_of t).places ≡ length t.places
long_places t = length-map t.places place_of

left_length : (ss : List SlotRow) (s : ℕ) (prev to : Option ℕ) → length (left_slots ss s prev to) ≡ length ss
left_length ss s None to = length_edit ss s (starting to)
left_length ss s (Some a) to = refl

pub keeps_grown : (t : Rows) (s : ℕ) (n : Slot) (f : List ℕ → List ℕ) (prev next : Option ℕ) → IsTable t → slice_get (forest_of t).slots s ≡ Some n → n.list ≡ true → length t.places < 2 ^ 26
    → IsGrowing t.places s n.kids (f n.kids) prev next → Keeps (linked_rows t s prev next) (grown (forest_of t) s f)
keeps_grown t s n f prev next a g list few k =
    let F = forest_of t in
    let new = rows_of t.nodes (left_slots t.slots s prev (Some (length t.places))) (grown_places t.places s prev next) in
    let st = stands_grown t F s n f prev next a.stands g k in
    let l = lawful_grown F s n f a.lawful g list (subst (IsGap n.kids (f n.kids)) (sym (long_places t)) k.gap) in
    let slots = left_length t.slots s prev (Some (length t.places)) in
    let places : length new.places ≡ length (F.places ++ empty_place s ∷ []) = sym (long_places new) ∙ ap length st.places in
    let more = length-append F.places (empty_place s ∷ []) in
    let long = long_places t in
    let few_nodes = a.few_nodes in
    let few_slots = a.few_slots in
    subst (λ z. Keeps z (grown F s f)) (sym (linked_is t s prev next)) (table_from new (grown F s f) st l (omega arith) (omega arith) (omega arith))

-- A place that leaves its list.
stands_left : (t : Rows) (F : Forest) (s p : ℕ) (n : Slot) (r : PlaceRow) → Stands t F → slice_get F.slots s ≡ Some n → IsLeaving t.places s p r n.kids (without p n.kids)
    → Stands (rows_of t.nodes (left_slots t.slots s r.prev r.next) (left_row_places t.places p r)) (left F s p)
stands_left t F s p n r w g k =
    let ends = leaving_ends t.places s p r n.kids (without p n.kids) k in
    let ps' = left_row_places t.places p r in
    record {
      nodes = w.nodes;
      slots = ap (λ z. left_slots z s r.prev r.next) w.slots ∙ (ap (λ z. left_slots (map core_of F.slots) s z r.next) ends.0
          ∙ slots_changed F.slots s n (without p) k.gap.front (p ∷ k.gap.back) k.gap.back r.next g k.gap.big_is k.gap.small_is ends.1);
      places = left_row_told t.places p r ∙ ap (λ z. edit z p (λ (q : Place). record q { owner = None })) w.places;
      chains = λ i m h.
          let b = was F.slots s (with_kids (without p)) i m h in
          ⊎_elim
          (λ e.
          let both = sym b.is ∙ (ap (slice_get F.slots) e.0 ∙ g) in
          let same : b.old ≡ n = cc in
          let kids : m.kids ≡ without p n.kids = ap (λ (z : Slot). z.kids) e.1 ∙ ap (λ (z : Slot). without p z.kids) same in
          subst (λ z. Chain ps' z None m.kids None) (sym e.0) (subst (λ z. Chain ps' s None z None) (sym kids) (left_chain t.places s p r n.kids (without p n.kids) k)))
          (λ e. subst (λ (z : Slot). Chain ps' i None z.kids None) (sym e.1) (left_other t.places s p r n.kids (without p n.kids) k i b.old.kids e.0 (w.chains i b.old b.is)))
          b.how;
    }

lawful_left : (F : Forest) (s p : ℕ) (n : Slot) → IsLawful F → slice_get F.slots s ≡ Some n → n.list ≡ true → IsGap (without p n.kids) n.kids p → IsLawful (left F s p)
lawful_left F s p n l g list gap = record {
  shape = shape_kids F.nodes F.slots s (without p) l.shape;
  lists = lists_left F.slots F.places s p n (without p) l.lists g list gap;
  seats = seats_left F.nodes F.places p None l.seats;
  root = root_left F.places p l.root;
  ended = λ i. ends_fewer F (left F s p) (below_left F s p) i (l.ended i);
}

pub keeps_left : (t : Rows) (s p : ℕ) (n : Slot) (r : PlaceRow) → IsTable t → slice_get (forest_of t).slots s ≡ Some n → n.list ≡ true → IsLeaving t.places s p r n.kids (without p n.kids)
    → Keeps (detached_rows t s p) (left (forest_of t) s p)
keeps_left t s p n r a g list k =
    let F = forest_of t in
    let new = rows_of t.nodes (left_slots t.slots s r.prev r.next) (left_row_places t.places p r) in
    let st = stands_left t F s p n r a.stands g k in
    let l = lawful_left F s p n a.lawful g list k.gap in
    let slots = left_length t.slots s r.prev r.next in
    let places : length new.places ≡ length F.places = sym (long_places new) ∙ (ap length st.places ∙ length_edit F.places p (λ (q : Place). record q { owner = None })) in
    let long = long_places t in
    let few_nodes = a.few_nodes in
    let few_slots = a.few_slots in
    let few_places = a.few_places in
    subst (λ z. Keeps z (left F s p)) (sym (detached_is t s p r k.row)) (table_from new (left F s p) st l (omega arith) (omega arith) (omega arith))
