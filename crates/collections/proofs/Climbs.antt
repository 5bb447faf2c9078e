-- The climb to the nearest place above, and the places that are found by it.
use Rattle.std.proofs.Common.{◌≡◌, ℕ, suc, ◌+◌, ◌-◌, ◌<◌, ◌≤◌, true, false, cond, List, [], ◌∷◌, ◌++◌, Option, Some, None, nat_eq, refl, sym, ap, ◌∙◌, append_assoc, append-nil, arith, Bool}
use Rattle.indexmap.specs.IndexSet.{insert_all}
use Rattle.node_arena.specs.Forest.{Forest}
use Rattle.ast_paths.specs.Paths.{parent_at}
use Rattle.collections.specs.Found.{alone}
use Rattle.collections.specs.Above.{nearest, nearest_all, nearest_each, nearest_in, nearest_some}
use Rattle.collections.proofs.Inserted.{all_more}

pub climb_none : (F : Forest) (fits : ℕ → Bool) (p : ℕ) → nearest_in 0 F fits p ≡ None
unfolding nearest_in
climb_none F fits p = refl

climb_one : (n : ℕ) (F : Forest) (fits : ℕ → Bool) (p : ℕ) → nearest_in (suc n) F fits p ≡ nearest_some fits (nearest_in n F fits) (parent_at F p)
unfolding nearest_in
climb_one n F fits p = refl

-- so many turns are done of n
pub climb_top : (n turn : ℕ) (F : Forest) (fits : ℕ → Bool) (p : ℕ) (o : Option ℕ) → turn < n → o ≡ parent_at F p → o ≡ None → nearest_in (n - turn) F fits p ≡ None
climb_top n turn F fits p o h e t =
    let k : n - turn ≡ suc (n - (turn + 1)) = omega (arith, h) in
    ap (λ z. nearest_in z F fits p) k ∙ (climb_one (n - (turn + 1)) F fits p ∙ ap (nearest_some fits (nearest_in (n - (turn + 1)) F fits)) (sym e ∙ t))

pub climb_here : (n turn : ℕ) (F : Forest) (fits : ℕ → Bool) (p q : ℕ) (o : Option ℕ) → turn < n → o ≡ parent_at F p → o ≡ Some q → fits q ≡ true → nearest_in (n - turn) F fits p ≡ Some q
climb_here n turn F fits p q o h e t y =
    let k : n - turn ≡ suc (n - (turn + 1)) = omega (arith, h) in
    ap (λ z. nearest_in z F fits p) k ∙ (climb_one (n - (turn + 1)) F fits p
    ∙ (ap (nearest_some fits (nearest_in (n - (turn + 1)) F fits)) (sym e ∙ t) ∙ ap (λ b. cond b (Some q) (nearest_in (n - (turn + 1)) F fits q)) y))

pub climb_on : (n turn : ℕ) (F : Forest) (fits : ℕ → Bool) (p q : ℕ) (o : Option ℕ) → turn < n → o ≡ parent_at F p → o ≡ Some q → fits q ≡ false → nearest_in (n - turn) F fits p ≡ nearest_in (n - (turn + 1)) F fits q
climb_on n turn F fits p q o h e t y =
    let k : n - turn ≡ suc (n - (turn + 1)) = omega (arith, h) in
    ap (λ z. nearest_in z F fits p) k ∙ (climb_one (n - (turn + 1)) F fits p
    ∙ (ap (nearest_some fits (nearest_in (n - (turn + 1)) F fits)) (sym e ∙ t) ∙ ap (λ b. cond b (Some q) (nearest_in (n - (turn + 1)) F fits q)) y))

each_last : (F : Forest) (fits : ℕ → Bool) (ps : List ℕ) (p : ℕ) → nearest_each F fits (ps ++ p ∷ []) ≡ nearest_each F fits ps ++ alone (nearest F fits p)
each_last F fits [] p = append-nil (alone (nearest F fits p))
each_last F fits (q ∷ ps) p =
    ap (λ z. alone (nearest F fits q) ++ z) (each_last F fits ps p) ∙ sym (append_assoc (alone (nearest F fits q)) (nearest_each F fits ps) (alone (nearest F fits p)))

all_last : (F : Forest) (fits : ℕ → Bool) (ps : List ℕ) (p : ℕ) → nearest_all F fits (ps ++ p ∷ []) ≡ insert_all nat_eq (nearest_all F fits ps) (alone (nearest F fits p))
all_last F fits ps p = ap (insert_all nat_eq []) (each_last F fits ps p) ∙ all_more [] (nearest_each F fits ps) (alone (nearest F fits p))

-- one path more
pub nearest_one : (F : Forest) (fits : ℕ → Bool) (kept new ps above : List ℕ) (p : ℕ) → kept ≡ nearest_all F fits ps → above ≡ alone (nearest F fits p) → new ≡ insert_all nat_eq kept above
    → new ≡ nearest_all F fits (ps ++ p ∷ [])
nearest_one F fits kept new ps above p k a n =
    n ∙ (ap (λ z. insert_all nat_eq z above) k ∙ (ap (insert_all nat_eq (nearest_all F fits ps)) a ∙ sym (all_last F fits ps p)))

pub alone_none : (o n : Option ℕ) → o ≡ n → o ≡ None → [] ≡ alone n
alone_none o n e t = ap alone (sym t ∙ e)

pub alone_some : (o n : Option ℕ) (found : List ℕ) (p : ℕ) → o ≡ n → o ≡ Some p → found ≡ [] ++ p ∷ [] → found ≡ alone n
alone_some o n found p e t f = f ∙ ap alone (sym t ∙ e)

-- the climb is at its end
pub climb_over : (n turn : ℕ) (F : Forest) (fits : ℕ → Bool) (p : ℕ) (r : Option ℕ) → n ≤ turn → nearest_in (n - turn) F fits p ≡ r → None ≡ r
climb_over n turn F fits p r h e =
    let k : n - turn ≡ 0 = omega (arith, h) in
    sym (climb_none F fits p) ∙ (ap (λ z. nearest_in z F fits p) (sym k) ∙ e)
