-- Where nodes stand: a node goes out of its place, a root comes into an empty one, places come and go.
use Rattle.std.proofs.Common.{◌≡◌, ◌≢◌, ⊎_elim, sym, ◌∙◌, ap, refl, ℕ, List, [], ◌∷◌, ◌++◌, Option, Some, None, slice_get}
use Rattle.node_arena.specs.declared.links.Node.{Node}
use Rattle.node_arena.specs.Rows.{edit, standing_at}
use Rattle.node_arena.specs.Forest.{Place, HasSeats, IsRootPlace, holding, owned_by}
use Rattle.node_arena.proofs.Edits.{was, was_kept, becomes, becomes_kept, edit_here, edit_away}
use Rattle.node_arena.proofs.Pushes.{push_old, push_cases}

abbrev at_of : Node → Option ℕ
at_of m = m.at

abbrev held_by : Place → Option ℕ
held_by q = q.node

-- the node j goes out of the place p
pub seats_clear : (nodes : List Node) (places : List Place) (p j : ℕ) (q : Place) → HasSeats nodes places → slice_get places p ≡ Some q → q.node ≡ Some j
    → HasSeats (edit nodes j (standing_at None)) (edit places p (holding None))
seats_clear nodes places p j q w g h =
    let here = w.seated p j q g h in
    record {
      seated = λ x i z gz iz.
          let b = was places p (holding None) x z gz in
          ⊎_elim
          (λ e. let none : None ≡ Some i = ap held_by (sym e.1) ∙ iz in absurd (cc))
          (λ e.
          let d = w.seated x i b.old b.is (ap held_by (sym e.1) ∙ iz) in
          let other : i ≢ j = (λ k.
          let both = sym d.is ∙ (ap (slice_get nodes) k ∙ here.is) in
          let same : d.row ≡ here.row = cc in
          let places : Some x ≡ Some p = sym d.at ∙ (ap at_of same ∙ here.at) in
          e.0 (cc)) in
          record { row = d.row; is = edit_away nodes j i (standing_at None) other ∙ d.is; at = d.at })
          b.how;
      seat = λ i x m gm am.
          let b = was nodes j (standing_at None) i m gm in
          ⊎_elim
          (λ e. let none : None ≡ Some x = ap at_of (sym e.1) ∙ am in absurd (cc))
          (λ e.
          let d = w.seat i x b.old b.is (ap at_of (sym e.1) ∙ am) in
          let other : x ≢ p = (λ k.
          let both = sym d.is ∙ (ap (slice_get places) k ∙ g) in
          let same : d.place ≡ q = cc in
          let held : Some i ≡ Some j = sym d.node ∙ (ap held_by same ∙ h) in
          e.0 (cc)) in
          record { place = d.place; is = edit_away places p x (holding None) other ∙ d.is; node = d.node })
          b.how;
    }

-- the root j comes into the empty place p
pub seats_fill : (nodes : List Node) (places : List Place) (p j : ℕ) (q : Place) (m : Node) → HasSeats nodes places → slice_get places p ≡ Some q → q.node ≡ None → slice_get nodes j ≡ Some m → m.at ≡ None
    → HasSeats (edit nodes j (standing_at (Some p))) (edit places p (holding (Some j)))
seats_fill nodes places p j q m w g free h root = record {
  seated = λ x i z gz iz.
      let b = was places p (holding (Some j)) x z gz in
      ⊎_elim
      (λ e.
      let held : Some j ≡ Some i = ap held_by (sym e.1) ∙ iz in
      let k : j ≡ i = cc in
      record {
        row = standing_at (Some p) m;
        is = ap (slice_get (edit nodes j (standing_at (Some p)))) (sym k) ∙ edit_here nodes j (standing_at (Some p)) m h;
        at = ap Some (sym e.0);
      })
      (λ e.
      let d = w.seated x i b.old b.is (ap held_by (sym e.1) ∙ iz) in
      let other : i ≢ j = (λ k.
      let both = sym d.is ∙ (ap (slice_get nodes) k ∙ h) in
      let same : d.row ≡ m = cc in
      let none : Some x ≡ None = sym d.at ∙ (ap at_of same ∙ root) in
      cc) in
      record { row = d.row; is = edit_away nodes j i (standing_at (Some p)) other ∙ d.is; at = d.at })
      b.how;
  seat = λ i x n gn an.
      let b = was nodes j (standing_at (Some p)) i n gn in
      ⊎_elim
      (λ e.
      let stands : Some p ≡ Some x = ap at_of (sym e.1) ∙ an in
      let k : p ≡ x = cc in
      record {
        place = holding (Some j) q;
        is = ap (slice_get (edit places p (holding (Some j)))) (sym k) ∙ edit_here places p (holding (Some j)) q g;
        node = ap Some (sym e.0);
      })
      (λ e.
      let d = w.seat i x b.old b.is (ap at_of (sym e.1) ∙ an) in
      let other : x ≢ p = (λ k.
      let both = sym d.is ∙ (ap (slice_get places) k ∙ g) in
      let same : d.place ≡ q = cc in
      let none : Some i ≡ None = sym d.node ∙ (ap held_by same ∙ free) in
      cc) in
      record { place = d.place; is = edit_away places p x (holding (Some j)) other ∙ d.is; node = d.node })
      b.how;
}

-- a new place, empty
pub seats_place : (nodes : List Node) (places : List Place) (new : Place) → HasSeats nodes places → new.node ≡ None → HasSeats nodes (places ++ new ∷ [])
seats_place nodes places new w empty = record {
  seated = λ x i q g h. ⊎_elim (λ e. w.seated x i q e h) (λ e. let none : None ≡ Some i = sym empty ∙ (ap held_by (sym e.1) ∙ h) in absurd (cc)) (push_cases places x new q g);
  seat = λ i x m g a. let d = w.seat i x m g a in record { place = d.place; is = push_old places x new d.place d.is; node = d.node };
}

-- a place goes out of its slot
pub seats_left : (nodes : List Node) (places : List Place) (p : ℕ) (to : Option ℕ) → HasSeats nodes places → HasSeats nodes (edit places p (owned_by to))
seats_left nodes places p to w = record {
  seated = λ x i q g h. let b = was_kept places p (owned_by to) x q held_by (λ z. refl) g in w.seated x i b.0 b.1 (sym b.2 ∙ h);
  seat = λ i x m g a.
      let d = w.seat i x m g a in
      let b = becomes_kept places p (owned_by to) x d.place held_by (λ z. refl) d.is in
      record { place = b.0; is = b.1; node = b.2 ∙ d.node };
}

-- The root place has no slot.
pub root_held : (places : List Place) (p : ℕ) (to : Option ℕ) → IsRootPlace places → IsRootPlace (edit places p (holding to))
root_held places p to w =
    let b = becomes_kept places p (holding to) 0 w.place (λ (z : Place). z.owner) (λ z. refl) w.is in
    record { place = b.0; is = b.1; owner = b.2 ∙ w.owner }

pub root_pushed : (places : List Place) (new : Place) → IsRootPlace places → IsRootPlace (places ++ new ∷ [])
root_pushed places new w = record { place = w.place; is = push_old places 0 new w.place w.is; owner = w.owner }

pub root_left : (places : List Place) (p : ℕ) → IsRootPlace places → IsRootPlace (edit places p (owned_by None))
root_left places p w =
    let b = becomes places p (owned_by None) 0 w.place w.is in
    record { place = b.new; is = b.is; owner = ⊎_elim (λ e. ap (λ (z : Place). z.owner) e.1) (λ e. ap (λ (z : Place). z.owner) e.1 ∙ w.owner) b.how }
