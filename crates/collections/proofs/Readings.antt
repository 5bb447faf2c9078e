-- What digits spell, and the first fields of a table.
use Rattle.std.proofs.Common.{◌≡◌, ◌≤◌, ◌<◌, ℕ, zero, suc, ◌+◌, ◌-◌, ◌*◌, Bool, true, false, cond, List, [], ◌∷◌, length, get_or, map, take, drop, drop-cons, Option, Some, None, refl, sym, ap, ◌∙◌, arith}
use Rattle.std.specs.Option.{is_some}
use Rattle.collections.specs.Reads.{is_digit, safe_read, spelled, undefined}

pub map_take : {A B : Type 0} (f : A → B) (n : ℕ) (xs : List A) → map f (take n xs) ≡ take n (map f xs)
map_take f zero xs = refl
map_take f (suc n) [] = refl
map_take f (suc n) (x ∷ xs) = ap (λ z. f x ∷ z) (map_take f n xs)

-- digits behind those of a number never spell a smaller one
spelled_step : (n u m : ℕ) (us : List ℕ) (b : Bool) → (spelled (n * 10 + (u - 48)) us ≡ Some m → n * 10 + (u - 48) ≤ m) → cond b (spelled (n * 10 + (u - 48)) us) None ≡ Some m → n ≤ m
spelled_step n u m us true h e = let k = h e in omega (arith, k)
spelled_step n u m us false h e = let k : None ≡ Some m = e in cc

pub spelled_more : (us : List ℕ) (n m : ℕ) → spelled n us ≡ Some m → n ≤ m
spelled_more [] n m e = grind arith
spelled_more (u ∷ us) n m e = spelled_step n u m us (is_digit u) (spelled_more us (n * 10 + (u - 48)) m) e

unsafe_read : (o : Option ℕ) → ((m : ℕ) → o ≡ Some m → 9007199254740991 < m) → safe_read o ≡ undefined
unsafe_read None h = refl
unsafe_read (Some m) h = let k = h m refl in grind arith

-- nor one that is safe where that is not
too_big : (all us : List ℕ) (n : ℕ) → 9007199254740991 < n → spelled n us ≡ spelled 0 all → safe_read (spelled 0 all) ≡ undefined
too_big all us n h e = unsafe_read (spelled 0 all) (λ m f. let k = spelled_more us n m (e ∙ f) in omega (arith, h, k))

spelled_on : (n u d : ℕ) (us : List ℕ) (r : Option ℕ) → is_some r ≡ is_digit u → r ≡ Some d → d + 48 ≡ u → spelled n (u ∷ us) ≡ spelled (n * 10 + d) us
spelled_on n u d us r t s v =
    let yes : is_digit u ≡ true = sym t ∙ ap is_some s in
    let k : u - 48 ≡ d = omega (arith, v) in
    ap (λ b. cond b (spelled (n * 10 + (u - 48)) us) None) yes ∙ ap (λ z. spelled (n * 10 + z) us) k

pub too_much : (all : List ℕ) (at n d e : ℕ) (r : Option ℕ) → at < length all → spelled n (drop at all) ≡ spelled 0 all → is_some r ≡ is_digit (get_or all at e) → r ≡ Some d → d + 48 ≡ get_or all at e
    → 9007199254740991 < n * 10 + d → safe_read (spelled 0 all) ≡ undefined
too_much all at n d e r l i t s v h =
    let c : drop at all ≡ get_or all at e ∷ drop (suc at) all = drop-cons all at e l in
    too_big all (drop (suc at) all) (n * 10 + d) h (sym (spelled_on n (get_or all at e) d (drop (suc at) all) r t s v) ∙ (ap (spelled n) (sym c) ∙ i))
