-- A step of the climb.
use Rattle.std.proofs.Common.{◌≡◌, ℕ, zero, suc, ◌+◌, ◌-◌, ◌<◌, Option, Some, None, refl, sym, ap, ◌∙◌, arith}
use Rattle.node_arena.specs.Store.{Store}
use Rattle.scope_lookup.specs.declared.scope.Scope.{Scope}
use Rattle.scope_lookup.specs.declared.climbing.Around.TheVariants.{Inside, Above, Nowhere}
use Rattle.scope_lookup.specs.Climbs.{around, climb, climbed}

climb_down : (n : ℕ) (A : Store) (p : ℕ) → 0 < n → climb n A p ≡ climbed (around A p) (climb (n - 1) A)
unfolding climb
climb_down zero A p h = absurd (omega arith)
climb_down (suc n) A p h = let k : suc n - 1 ≡ n = omega arith in rw k refl

pub climb_inside : (n : ℕ) (A : Store) (p : ℕ) (s : Scope) → 0 < n → Inside s ≡ around A p → Some s ≡ climb n A p
climb_inside n A p s h e = sym (climb_down n A p h ∙ ap (λ z. climbed z (climb (n - 1) A)) (sym e))

pub climb_nowhere : (n : ℕ) (A : Store) (p : ℕ) → 0 < n → Nowhere ≡ around A p → None ≡ climb n A p
climb_nowhere n A p h e = sym (climb_down n A p h ∙ ap (λ z. climbed z (climb (n - 1) A)) (sym e))

pub climb_above : (n k : ℕ) (A : Store) (p q : ℕ) (all : Option Scope) → n ≡ k + 1 → Above q ≡ around A p → climb n A p ≡ all → climb k A q ≡ all
climb_above n k A p q all h e a =
    let l : n - 1 ≡ k = omega (arith, h) in
    ap (λ z. climb z A q) (sym l) ∙ (sym (climb_down n A p (omega (arith, h)) ∙ ap (λ z. climbed z (climb (n - 1) A)) (sym e)) ∙ a)

pub climb_end : (n : ℕ) (A : Store) (p : ℕ) → n ≡ 0 → None ≡ climb n A p
unfolding climb
climb_end n A p e = sym (ap (λ z. climb z A p) e)
