-- Names along lists of places, and outwards through scopes.
use Rattle.std.proofs.Common.{◌≡◌, ℕ, zero, suc, ◌+◌, ◌-◌, ◌<◌, true, false, List, [], ◌∷◌, Option, Some, None, refl, sym, ap, ◌∙◌, if◌then◌else◌, arith}
use Rattle.node_arena.specs.Store.{Store}
use Rattle.scope_lookup.specs.declared.scope.Scope.{Scope}
use Rattle.scope_lookup.specs.declared.resolving.Found.{Found}
use Rattle.scope_lookup.specs.Climbs.{outer_of}
use Rattle.scope_lookup.specs.Scopings.{name_at}
use Rattle.scope_lookup.specs.Resolve.{declaration, find_in, first_named, here_or, is_name, outside}

first_cons : (A : Store) (name : List ℕ) (p : ℕ) (ps : List ℕ) → first_named A name (p ∷ ps) ≡ (if is_name name (name_at A p) then Some p else first_named A name ps)
unfolding first_named
first_cons A name p ps = refl

pub first_here : (A : Store) (name : List ℕ) (p : ℕ) (ps rest : List ℕ) → rest ≡ p ∷ ps → is_name name (name_at A p) ≡ true → Some p ≡ first_named A name rest
first_here A name p ps rest e t = sym (ap (first_named A name) e ∙ (first_cons A name p ps ∙ ap (λ b. if b then Some p else first_named A name ps) t))

pub first_later : (A : Store) (name : List ℕ) (p : ℕ) (ps rest : List ℕ) → rest ≡ p ∷ ps → is_name name (name_at A p) ≡ false → first_named A name ps ≡ first_named A name rest
first_later A name p ps rest e t = sym (ap (first_named A name) e ∙ (first_cons A name p ps ∙ ap (λ b. if b then Some p else first_named A name ps) t))

pub first_none : (A : Store) (name rest : List ℕ) → rest ≡ [] → None ≡ first_named A name rest
unfolding first_named
first_none A name rest e = sym (ap (first_named A name) e)

find_down : (n : ℕ) (A : Store) (name : List ℕ) (s : Scope) → 0 < n → find_in n A name s ≡ here_or s (declaration A name s) (outside (outer_of A s) (find_in (n - 1) A name))
unfolding find_in
find_down zero A name s h = absurd (omega arith)
find_down (suc n) A name s h = let k : suc n - 1 ≡ n = omega arith in rw k refl

pub find_here : (n : ℕ) (A : Store) (name : List ℕ) (s : Scope) (p : ℕ) → 0 < n → Some p ≡ declaration A name s → Some (record { scope = s; place = p }) ≡ find_in n A name s
find_here n A name s p h e = sym (find_down n A name s h ∙ ap (λ z. here_or s z (outside (outer_of A s) (find_in (n - 1) A name))) (sym e))

pub find_outside : (n k : ℕ) (A : Store) (name : List ℕ) (s t : Scope) (all : Option Found) → n ≡ k + 1 → None ≡ declaration A name s → Some t ≡ outer_of A s → find_in n A name s ≡ all → find_in k A name t ≡ all
find_outside n k A name s t all h e o a =
    let l : n - 1 ≡ k = omega (arith, h) in
    ap (λ z. find_in z A name t) (sym l)
    ∙ (sym (find_down n A name s (omega (arith, h))
    ∙ (ap (λ z. here_or s z (outside (outer_of A s) (find_in (n - 1) A name))) (sym e)
    ∙ ap (λ z. outside z (find_in (n - 1) A name)) (sym o))) ∙ a)

pub find_nowhere : (n : ℕ) (A : Store) (name : List ℕ) (s : Scope) → 0 < n → None ≡ declaration A name s → None ≡ outer_of A s → None ≡ find_in n A name s
find_nowhere n A name s h e o =
    sym (find_down n A name s h
    ∙ (ap (λ z. here_or s z (outside (outer_of A s) (find_in (n - 1) A name))) (sym e)
    ∙ ap (λ z. outside z (find_in (n - 1) A name)) (sym o)))

pub find_end : (n : ℕ) (A : Store) (name : List ℕ) (s : Scope) → n ≡ 0 → None ≡ find_in n A name s
unfolding find_in
find_end n A name s e = sym (ap (λ z. find_in z A name s) e)
