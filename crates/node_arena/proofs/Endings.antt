-- What is below nodes after a change, and that it ends.
use Rattle.std.proofs.Common.{◌≡◌, ◌⊎◌, inl, inr, ⊎_elim, sym, ◌∙◌, ap, subst, refl, ℕ, List, length, Option, Some, None}
use Rattle.node_arena.specs.Lists.{without}
use Rattle.node_arena.specs.Forest.{Forest, Slot, Place, IsPlaceOf, IsBelow, Under, itself, below, Holds, Ends, ends, with_kids, holding, owned_by, reseated, grown, left, empty_place}
use Rattle.node_arena.proofs.Edits.{was, was_kept}
use Rattle.node_arena.proofs.Pushes.{push_cases}

-- where nothing more is below any node, what is below each ends still
pub ends_fewer : (F G : Forest) → ((i x j : ℕ) → IsBelow G i x j → IsBelow F i x j) → (i : ℕ) → Ends F i → Ends G i
ends_fewer F G fewer i (ends f) = ends (λ x j b. ends_fewer F G fewer j (f x j (fewer i x j b)))

pub under_fewer : (F G : Forest) → ((i x j : ℕ) → IsBelow G i x j → IsBelow F i x j) → (i k : ℕ) → Under G i k → Under F i k
under_fewer F G fewer i k itself = itself
under_fewer F G fewer i k (below b u) = below (fewer i _ _ b) (under_fewer F G fewer _ k u)

-- A node goes out of a place, or comes into it.
pub place_reseated : (F : Forest) (j p : ℕ) (at to : Option ℕ) (i x : ℕ) → IsPlaceOf (reseated F j p at to) i x → IsPlaceOf F i x
place_reseated F j p at to i x h =
    let b = was_kept F.places p (holding to) x h.place (λ (z : Place). z.owner) (λ z. refl) h.is in
    record { place = b.0; is = b.1; number = h.number; owner = sym b.2 ∙ h.owner; slot = h.slot; slot_is = h.slot_is; node = h.node }

pub below_reseated : (F : Forest) (j p : ℕ) (at to : Option ℕ) (i x y : ℕ) → IsBelow (reseated F j p at to) i x y → (IsBelow F i x y) ⊎ ((x ≡ p) × (to ≡ Some y))
below_reseated F j p at to i x y b =
    let h = b.at in
    let w = was F.places p (holding to) x h.place h.is in
    ⊎_elim
    (λ e. inr (e.0, ap (λ (z : Place). z.node) (sym e.1) ∙ b.node))
    (λ e. inl (record {
      at = record { place = w.old; is = w.is; number = h.number; owner = ap (λ (z : Place). z.owner) (sym e.1) ∙ h.owner; slot = h.slot; slot_is = h.slot_is; node = h.node };
      node = ap (λ (z : Place). z.node) (sym e.1) ∙ b.node;
    }))
    w.how

pub below_cleared : (F : Forest) (j p i x y : ℕ) → IsBelow (reseated F j p None None) i x y → IsBelow F i x y
below_cleared F j p i x y b = ⊎_elim (λ e. e) (λ e. let none = e.1 in absurd (cc)) (below_reseated F j p None None i x y b)

-- a node that does not hold the place has below it what it had
ends_apart : (F : Forest) (p j a : ℕ) → (Holds F a p → ⊥) → Ends F a → Ends (reseated F j p (Some p) (Some j)) a
ends_apart F p j a n (ends f) = ends (λ x y b.
    ⊎_elim
    (λ e. ends_apart F p j y (λ h. n (record { node = h.node; under = below e h.under; at = h.at })) (f x y e))
    (λ e. absurd (n (record { node = a; under = itself; at = subst (IsPlaceOf F a) e.0 (place_reseated F j p (Some p) (Some j) a x b.at) })))
    (below_reseated F j p (Some p) (Some j) a x y b))

ends_with : (F : Forest) (p j : ℕ) → Ends (reseated F j p (Some p) (Some j)) j → (a : ℕ) → Ends F a → Ends (reseated F j p (Some p) (Some j)) a
ends_with F p j here a (ends f) = ends (λ x y b.
    ⊎_elim
    (λ e. ends_with F p j here y (f x y e))
    (λ e. let held = e.1 in let k : j ≡ y = cc in subst (Ends (reseated F j p (Some p) (Some j))) k here)
    (below_reseated F j p (Some p) (Some j) a x y b))

pub ends_filled : (F : Forest) (p j : ℕ) → (Holds F j p → ⊥) → ((i : ℕ) → Ends F i) → (i : ℕ) → Ends (reseated F j p (Some p) (Some j)) i
ends_filled F p j n all i = ends_with F p j (ends_apart F p j j n (all j)) i (all i)

-- A new place.
pub place_grown : (F : Forest) (s : ℕ) (f : List ℕ → List ℕ) (i x : ℕ) → (h : IsPlaceOf (grown F s f) i x) → (IsPlaceOf F i x) ⊎ ((x ≡ length F.places) × (h.place ≡ empty_place s))
place_grown F s f i x h =
    let b = was_kept F.slots s (with_kids f) h.number h.slot (λ (z : Slot). z.node) (λ z. refl) h.slot_is in
    ⊎_elim
    (λ e. inl (record { place = h.place; is = e; number = h.number; owner = h.owner; slot = b.0; slot_is = b.1; node = sym b.2 ∙ h.node }))
    (λ e. inr e)
    (push_cases F.places x (empty_place s) h.place h.is)

pub below_grown : (F : Forest) (s : ℕ) (f : List ℕ → List ℕ) (i x j : ℕ) → IsBelow (grown F s f) i x j → IsBelow F i x j
below_grown F s f i x j b =
    let h = b.at in
    let w = was_kept F.slots s (with_kids f) h.number h.slot (λ (z : Slot). z.node) (λ z. refl) h.slot_is in
    ⊎_elim
    (λ e. record { at = record { place = h.place; is = e; number = h.number; owner = h.owner; slot = w.0; slot_is = w.1; node = sym w.2 ∙ h.node }; node = b.node })
    (λ e. let none : None ≡ Some j = ap (λ (z : Place). z.node) (sym e.1) ∙ b.node in absurd (cc))
    (push_cases F.places x (empty_place s) h.place h.is)

-- A place that leaves.
pub below_left : (F : Forest) (s p i x j : ℕ) → IsBelow (left F s p) i x j → IsBelow F i x j
below_left F s p i x j b =
    let h = b.at in
    let t = was_kept F.slots s (with_kids (without p)) h.number h.slot (λ (z : Slot). z.node) (λ z. refl) h.slot_is in
    let w = was F.places p (owned_by None) x h.place h.is in
    ⊎_elim
    (λ e. let none : None ≡ Some h.number = ap (λ (z : Place). z.owner) (sym e.1) ∙ h.owner in absurd (cc))
    (λ e. record {
      at = record { place = w.old; is = w.is; number = h.number; owner = ap (λ (z : Place). z.owner) (sym e.1) ∙ h.owner; slot = t.0; slot_is = t.1; node = sym t.2 ∙ h.node };
      node = ap (λ (z : Place). z.node) (sym e.1) ∙ b.node;
    })
    w.how
