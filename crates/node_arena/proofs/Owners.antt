-- Slots and their places: a new place in a gap, and a place that leaves.
use Rattle.std.proofs.Common.{◌≡◌, ◌≢◌, ⊎_elim, sym, ◌∙◌, ap, subst, refl, ℕ, Bool, true, false, List, [], ◌∷◌, ◌++◌, length, Option, Some, None, slice_get}
use Rattle.node_arena.specs.Rows.{edit}
use Rattle.node_arena.specs.Lists.{Among, Distinct}
use Rattle.node_arena.specs.Forest.{Slot, Place, HasLists, HasOne, with_kids, empty_place, holding, owned_by}
use Rattle.node_arena.proofs.Edits.{was, was_kept, becomes, becomes_kept, edit_here, edit_away}
use Rattle.node_arena.proofs.Pushes.{push_old, push_new, push_cases, before_end}
use Rattle.node_arena.proofs.Splits.{IsGap, gap_old, gap_new, gap_back, gap_distinct, gap_apart}

abbrev kids_of : Slot → List ℕ
kids_of n = n.kids

abbrev slot_in : Place → Option ℕ
slot_in q = q.owner

-- a place gets another node
pub lists_held : (slots : List Slot) (places : List Place) (p : ℕ) (to : Option ℕ) → HasLists slots places → HasLists slots (edit places p (holding to))
lists_held slots places p to w = record {
  owned = λ x s q g o. let b = was_kept places p (holding to) x q slot_in (λ z. refl) g in w.owned x s b.0 b.1 (sym b.2 ∙ o);
  owner = λ s x n g m.
      let d = w.owner s x n g m in
      let b = becomes_kept places p (holding to) x d.place slot_in (λ z. refl) d.is in
      record { place = b.0; is = b.1; owner = b.2 ∙ d.owner };
  distinct = w.distinct;
  single = w.single;
}

-- a slot with other places
abbrev list_flag : Slot → Bool
list_flag n = n.list

changed_one : (slots : List Slot) (s : ℕ) (f : List ℕ → List ℕ) (n : Slot) → slice_get slots s ≡ Some n → n.list ≡ true
    → ((i : ℕ) (m : Slot) → slice_get slots i ≡ Some m → m.list ≡ false → HasOne m.kids)
    → (i : ℕ) (m : Slot) → slice_get (edit slots s (with_kids f)) i ≡ Some m → m.list ≡ false → HasOne m.kids
changed_one slots s f n g l one i m h lf =
    let b = was slots s (with_kids f) i m h in
    ⊎_elim
    (λ e.
    let both = sym b.is ∙ (ap (slice_get slots) e.0 ∙ g) in
    let same : b.old ≡ n = cc in
    let flags : false ≡ true = sym lf ∙ (ap list_flag e.1 ∙ (ap list_flag same ∙ l)) in
    absurd (cc))
    (λ e. subst (λ (z : Slot). HasOne z.kids) (sym e.1) (one i b.old b.is (ap list_flag (sym e.1) ∙ lf)))
    b.how

-- a new place in a list
pub lists_grown : (slots : List Slot) (places : List Place) (s : ℕ) (n : Slot) (f : List ℕ → List ℕ) → HasLists slots places → slice_get slots s ≡ Some n → n.list ≡ true
    → IsGap n.kids (f n.kids) (length places) → HasLists (edit slots s (with_kids f)) (places ++ empty_place s ∷ [])
lists_grown slots places s n f w g l gap =
    let q = length places in
    let fresh : Among q n.kids → ⊥ = (λ m. let d = w.owner s q n g m in before_end places q d.place d.is refl) in
    record {
      owned = λ x i z gz o.
          ⊎_elim
          (λ e.
          let d = w.owned x i z e o in
          let b = becomes slots s (with_kids f) i d.slot d.is in
          record {
            slot = b.new;
            is = b.is;
            among = ⊎_elim
                (λ c.
                let both = sym d.is ∙ (ap (slice_get slots) c.0 ∙ g) in
                let same : d.slot ≡ n = cc in
                let more : Among x (f n.kids) = gap_old n.kids (f n.kids) q x gap (subst (λ (z : Slot). Among x z.kids) same d.among) in
                subst (Among x) (sym (ap kids_of c.1 ∙ ap (λ (z : Slot). f z.kids) same)) more)
                (λ c. subst (λ (z : Slot). Among x z.kids) (sym c.1) d.among)
                b.how;
          })
          (λ e.
          let owners : Some s ≡ Some i = ap slot_in (sym e.1) ∙ o in
          let k : s ≡ i = cc in
          record {
            slot = with_kids f n;
            is = ap (slice_get (edit slots s (with_kids f))) (sym k) ∙ edit_here slots s (with_kids f) n g;
            among = subst (λ z. Among z (f n.kids)) (sym e.0) (gap_new n.kids (f n.kids) q gap);
          })
          (push_cases places x (empty_place s) z gz);
      owner = λ i x m gm a.
          let b = was slots s (with_kids f) i m gm in
          ⊎_elim
          (λ c.
          let both = sym b.is ∙ (ap (slice_get slots) c.0 ∙ g) in
          let same : b.old ≡ n = cc in
          let has : Among x (f n.kids) = subst (Among x) (ap kids_of c.1 ∙ ap (λ (z : Slot). f z.kids) same) a in
          ⊎_elim
          (λ e. record { place = empty_place s; is = ap (slice_get (places ++ empty_place s ∷ [])) e ∙ push_new places (empty_place s); owner = ap Some (sym c.0) })
          (λ e. let d = w.owner s x n g e in record { place = d.place; is = push_old places x (empty_place s) d.place d.is; owner = d.owner ∙ ap Some (sym c.0) })
          (gap_back n.kids (f n.kids) q x gap has))
          (λ c. let d = w.owner i x b.old b.is (subst (Among x) (ap kids_of c.1) a) in record { place = d.place; is = push_old places x (empty_place s) d.place d.is; owner = d.owner })
          b.how;
      distinct = λ i m gm.
          let b = was slots s (with_kids f) i m gm in
          ⊎_elim
          (λ c.
          let both = sym b.is ∙ (ap (slice_get slots) c.0 ∙ g) in
          let same : b.old ≡ n = cc in
          subst Distinct (sym (ap kids_of c.1 ∙ ap (λ (z : Slot). f z.kids) same)) (gap_distinct n.kids (f n.kids) q gap (w.distinct s n g) fresh))
          (λ c. subst (λ (z : Slot). Distinct z.kids) (sym c.1) (w.distinct i b.old b.is))
          b.how;
      single = changed_one slots s f n g l w.single;
    }

-- a place leaves its list
pub lists_left : (slots : List Slot) (places : List Place) (s p : ℕ) (n : Slot) (f : List ℕ → List ℕ) → HasLists slots places → slice_get slots s ≡ Some n → n.list ≡ true → IsGap (f n.kids) n.kids p
    → HasLists (edit slots s (with_kids f)) (edit places p (owned_by None))
lists_left slots places s p n f w g l gap =
    let apart = gap_apart (f n.kids) n.kids p gap (w.distinct s n g) in
    let here = w.owner s p n g (gap_new (f n.kids) n.kids p gap) in
    record {
      owned = λ x i z gz o.
          let b = was places p (owned_by None) x z gz in
          ⊎_elim
          (λ c. let none : None ≡ Some i = ap slot_in (sym c.1) ∙ o in absurd (cc))
          (λ c.
          let d = w.owned x i b.old b.is (ap slot_in (sym c.1) ∙ o) in
          let t = becomes slots s (with_kids f) i d.slot d.is in
          record {
            slot = t.new;
            is = t.is;
            among = ⊎_elim
                (λ e.
                let both = sym d.is ∙ (ap (slice_get slots) e.0 ∙ g) in
                let same : d.slot ≡ n = cc in
                let less : Among x (f n.kids) = ⊎_elim (λ k. absurd (c.0 k)) (λ k. k) (gap_back (f n.kids) n.kids p x gap (subst (λ (z : Slot). Among x z.kids) same d.among)) in
                subst (Among x) (sym (ap kids_of e.1 ∙ ap (λ (z : Slot). f z.kids) same)) less)
                (λ e. subst (λ (z : Slot). Among x z.kids) (sym e.1) d.among)
                t.how;
          })
          b.how;
      owner = λ i x m gm a.
          let b = was slots s (with_kids f) i m gm in
          ⊎_elim
          (λ c.
          let both = sym b.is ∙ (ap (slice_get slots) c.0 ∙ g) in
          let same : b.old ≡ n = cc in
          let has : Among x (f n.kids) = subst (Among x) (ap kids_of c.1 ∙ ap (λ (z : Slot). f z.kids) same) a in
          let d = w.owner s x n g (gap_old (f n.kids) n.kids p x gap has) in
          let other : x ≢ p = (λ k. apart.1 (subst (λ z. Among z (f n.kids)) k has)) in
          record { place = d.place; is = edit_away places p x (owned_by None) other ∙ d.is; owner = d.owner ∙ ap Some (sym c.0) })
          (λ c.
          let d = w.owner i x b.old b.is (subst (Among x) (ap kids_of c.1) a) in
          let other : x ≢ p = (λ k.
          let both = sym d.is ∙ (ap (slice_get places) k ∙ here.is) in
          let same : d.place ≡ here.place = cc in
          let owners : Some i ≡ Some s = sym d.owner ∙ (ap slot_in same ∙ here.owner) in
          c.0 (cc)) in
          record { place = d.place; is = edit_away places p x (owned_by None) other ∙ d.is; owner = d.owner })
          b.how;
      distinct = λ i m gm.
          let b = was slots s (with_kids f) i m gm in
          ⊎_elim
          (λ c.
          let both = sym b.is ∙ (ap (slice_get slots) c.0 ∙ g) in
          let same : b.old ≡ n = cc in
          subst Distinct (sym (ap kids_of c.1 ∙ ap (λ (z : Slot). f z.kids) same)) apart.0)
          (λ c. subst (λ (z : Slot). Distinct z.kids) (sym c.1) (w.distinct i b.old b.is))
          b.how;
      single = changed_one slots s f n g l w.single;
    }
