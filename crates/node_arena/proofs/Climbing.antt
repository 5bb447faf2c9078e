-- A node that is not met on the way up from a place does not hold it.
use Rattle.std.proofs.Common.{◌≡◌, ◌≢◌, ◌⊎◌, inl, inr, ⊎_elim, sym, ◌∙◌, ap, subst, refl, ℕ, zero, suc, ◌+◌, ◌-◌, ◌<◌, Bool, true, false, length, Some, None, arith, if◌then◌else◌, ◌==◌}
use Rattle.std.proofs.lemmas.Bool.Decides.{eqb_tells}
use Rattle.node_arena.specs.Climbs.{climbs, climb_by, climb_on}
use Rattle.node_arena.specs.Forest.{Forest, Holds, IsBelow, IsLawful, IsPlaceOf, IsRoot, IsRoot_row, MayGo, Under, itself, below, owner_of}
use Rattle.node_arena.proofs.Pushes.{item_at}
use Rattle.node_arena.specs.Reads.{owner_at, owner_in, place_at, place_in, slot_node}

climbs_more : (n : ℕ) (F : Forest) (node place : ℕ) → 0 < n → climbs n F node place ≡ climb_by F node (climbs (n - 1) F node) (owner_at F place)
unfolding climbs
climbs_more zero F node place h = absurd (omega arith)
climbs_more (suc n) F node place h = let less : n ≡ suc n - 1 = omega arith in ap (λ z. climb_by F node (climbs z F node) (owner_at F place)) less

pub climb_end : (n : ℕ) (F : Forest) (node place : ℕ) → n ≡ 0 → climbs n F node place ≡ true
unfolding climbs
climb_end zero F node place h = refl
climb_end (suc n) F node place h = absurd (omega arith)

pub climb_none : (n : ℕ) (F : Forest) (node place : ℕ) → 0 < n → owner_at F place ≡ None → climbs n F node place ≡ false
climb_none n F node place h o = climbs_more n F node place h ∙ ap (climb_by F node (climbs (n - 1) F node)) o

-- the step from an owner, by the test
climb_owner : (n : ℕ) (F : Forest) (node place k : ℕ) → 0 < n → owner_at F place ≡ Some k → climbs n F node place ≡ (if k == node then true else climb_on (climbs (n - 1) F node) (place_at F k))
climb_owner n F node place k h o = climbs_more n F node place h ∙ ap (climb_by F node (climbs (n - 1) F node)) o

pub climb_met : (n : ℕ) (F : Forest) (node place k : ℕ) → 0 < n → owner_at F place ≡ Some k → k ≡ node → climbs n F node place ≡ true
climb_met n F node place k h o e =
    let on : (if k == node then true else climb_on (climbs (n - 1) F node) (place_at F k)) ≡ true = ⊎_elim (λ d. ap (λ (b : Bool). if b then true else climb_on (climbs (n - 1) F node) (place_at F k)) d.0) (λ d. absurd (d.1 e)) (eqb_tells k node) in
    climb_owner n F node place k h o ∙ on

climb_other : (n : ℕ) (F : Forest) (node place k : ℕ) → 0 < n → owner_at F place ≡ Some k → k ≢ node → climbs n F node place ≡ climb_on (climbs (n - 1) F node) (place_at F k)
climb_other n F node place k h o e =
    let on : (if k == node then true else climb_on (climbs (n - 1) F node) (place_at F k)) ≡ climb_on (climbs (n - 1) F node) (place_at F k) = ⊎_elim (λ d. absurd (e d.1)) (λ d. ap (λ (b : Bool). if b then true else climb_on (climbs (n - 1) F node) (place_at F k)) d.0) (eqb_tells k node) in
    climb_owner n F node place k h o ∙ on

pub climb_top : (n : ℕ) (F : Forest) (node place k : ℕ) → 0 < n → owner_at F place ≡ Some k → k ≢ node → place_at F k ≡ None → climbs n F node place ≡ false
climb_top n F node place k h o e t = climb_other n F node place k h o e ∙ ap (climb_on (climbs (n - 1) F node)) t

pub climb_up : (n m : ℕ) (F : Forest) (node place k above : ℕ) → n ≡ m + 1 → owner_at F place ≡ Some k → k ≢ node → place_at F k ≡ Some above → climbs n F node place ≡ climbs m F node above
climb_up n m F node place k above h o e t =
    let less : n - 1 ≡ m = omega arith in
    climb_other n F node place k (omega arith) o e ∙ (ap (climb_on (climbs (n - 1) F node)) t ∙ ap (λ z. climbs z F node above) less)

-- the last step down to a node
record IsLast (F : Forest) (i k : ℕ) : Type 0 where
  up : ℕ
  under : Under F i up
  place : ℕ
  at : IsBelow F up place k

last_step : (F : Forest) (i k : ℕ) → Under F i k → (i ≡ k) ⊎ IsLast F i k
last_step F i k itself = inl refl
last_step F i k (below b u) =
    ⊎_elim
    (λ e. inr (record { up = i; under = itself; place = _; at = subst (IsBelow F i _) e b }))
    (λ l. inr (record { up = l.up; under = below b l.under; place = l.place; at = l.at }))
    (last_step F _ k u)

owner_is : (F : Forest) (i x : ℕ) → IsPlaceOf F i x → owner_at F x ≡ Some i
owner_is F i x h = ap (λ o. owner_in F (owner_of o)) h.is ∙ (ap (owner_in F) h.owner ∙ (ap slot_node h.slot_is ∙ ap Some h.node))

place_is : (F : Forest) (i x k : ℕ) → IsLawful F → IsBelow F i x k → place_at F k ≡ Some x
place_is F i x k l b = let s = l.seats.seated x k b.at.place b.at.is b.node in ap place_in s.is ∙ s.at

met_self : (n : ℕ) (F : Forest) (node k : ℕ) → k ≡ node → (if k == node then true else climb_on (climbs n F node) (place_at F k)) ≡ false → ⊥
met_self n F node k e met =
    ⊎_elim
    (λ d. let g = rw d.0 at met in absurd (cc))
    (λ d. absurd (d.1 e))
    (eqb_tells k node)

met_on : (n : ℕ) (F : Forest) (node k x : ℕ) → Some x ≡ place_at F k → (if k == node then true else climb_on (climbs n F node) (place_at F k)) ≡ false → climbs n F node x ≡ false
met_on n F node k x e met =
    ⊎_elim
    (λ d. let g = rw d.0 at met in absurd (cc))
    (λ d. let g = rw d.0 at met in ap (climb_on (climbs n F node)) e ∙ g)
    (eqb_tells k node)

pub root_told : (F : Forest) (j : ℕ) → place_at F j ≡ None → j < length F.nodes → IsRoot F j
root_told F j e lt = let m = item_at F.nodes j lt in subst IsRoot_row (sym m.1) (ap place_in (sym m.1) ∙ e)

pub climbs_past : (n : ℕ) (F : Forest) (node place : ℕ) → IsLawful F → climbs n F node place ≡ false → Holds F node place → ⊥
unfolding climbs
climbs_past zero F node place l e h = cc
climbs_past (suc n) F node place l e h =
    let o = owner_is F h.node place h.at in
    let met : (if h.node == node then true else climb_on (climbs n F node) (place_at F h.node)) ≡ false = ap (climb_by F node (climbs n F node)) (sym o) ∙ e in
    ⊎_elim
    (λ same. absurd (met_self n F node h.node (sym same) met))
    (λ step.
    let on = met_on n F node h.node step.place (sym (place_is F step.up step.place h.node l step.at)) met in
    climbs_past n F node step.place l on (record { node = step.up; under = step.under; at = step.at.at }))
    (last_step F node h.node h.under)

pub may_go_told : (n : ℕ) (F : Forest) (node place : ℕ) → IsLawful F → place_at F node ≡ None → node < length F.nodes → climbs n F node place ≡ false → MayGo F place node
may_go_told n F node place l root lt e = record { root = root_told F node root lt; apart = climbs_past n F node place l e }
