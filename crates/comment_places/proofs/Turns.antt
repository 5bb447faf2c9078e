-- Children in turn, and the last of them.
use Rattle.std.proofs.Common.{◌≡◌, ℕ, zero, suc, ◌+◌, ◌-◌, Bool, true, false, Option, Some, None, List, [], ◌∷◌, ◌++◌, length, map, take, drop, slice_get, refl, sym, ap, ◌∙◌, append_assoc, arith}
use Rattle.comment_places.specs.declared.children.Child.{Child}
use Rattle.std.proofs.lemmas.List.{take-map, drop-map}
use Rattle.std.proofs.lemmas.List.{take_rest}
use Rattle.comment_places.specs.Children.{Kid, kid_view, first_of, rest_of, turns, in_turns, character_count}
use Rattle.comment_places.specs.Seats.{is_nothing}

turns_by : (xs ys : List Kid) → turns xs ys ≡ first_of xs ++ (first_of ys ++ turns (rest_of xs) (rest_of ys))
turns_by [] [] = refl
turns_by [] (y ∷ ys) = refl
turns_by (x ∷ xs) ys = refl

rest_at : (xs : List Child) (at : ℕ) → rest_of (map kid_view (drop at xs)) ≡ map kid_view (drop (suc at) xs)
rest_at [] zero = refl
rest_at [] (suc at) = refl
rest_at (x ∷ xs) zero = refl
rest_at (x ∷ xs) (suc at) = rest_at xs at

pub turns_step : (xs ys : List Child) (at : ℕ) → turns (map kid_view (drop at xs)) (map kid_view (drop at ys)) ≡ first_of (map kid_view (drop at xs)) ++ (first_of (map kid_view (drop at ys)) ++ turns (map kid_view (drop (at + 1) xs)) (map kid_view (drop (at + 1) ys)))
turns_step xs ys at =
    let n : at + 1 ≡ suc at = omega arith in
    rw n (turns_by (map kid_view (drop at xs)) (map kid_view (drop at ys))
    ∙ ap (λ z. first_of (map kid_view (drop at xs)) ++ (first_of (map kid_view (drop at ys)) ++ turns z (rest_of (map kid_view (drop at ys))))) (rest_at xs at)
    ∙ ap (λ z. first_of (map kid_view (drop at xs)) ++ (first_of (map kid_view (drop at ys)) ++ turns (map kid_view (drop (suc at) xs)) z)) (rest_at ys at))

pub regrouped : (old one two : List Kid) (x y before behind all : List Kid) → one ≡ old ++ x → two ≡ one ++ y → before ≡ x ++ (y ++ behind) → old ++ before ≡ all → two ++ behind ≡ all
regrouped old one two x y before behind all a b d e =
    let f : (old ++ x) ++ y ++ behind ≡ old ++ (x ++ (y ++ behind)) = append_assoc (old ++ x) y behind ∙ append_assoc old x (y ++ behind) in
    rw (b, a) (f ∙ (ap (λ z. old ++ z) (sym d) ∙ e))

pub in_turns_by : (found : List Child) (n : ℕ) → n ≡ character_count (map kid_view found) → in_turns (map kid_view found) ≡ turns (map kid_view (take n found)) (map kid_view (take (length found - n) (drop n found)))
in_turns_by found n e =
    let r = take_rest found n in
    rw (r, e, take-map, drop-map) refl

abbrev pub is_missing : Option Child → Bool
is_missing None = true
is_missing (Some x) = false

pub nothing_at : (xs : List Child) (n : ℕ) → is_nothing (map kid_view (drop n xs)) ≡ is_missing (slice_get xs n)
nothing_at [] zero = refl
nothing_at [] (suc n) = refl
nothing_at (x ∷ xs) zero = refl
nothing_at (x ∷ xs) (suc n) = nothing_at xs n
