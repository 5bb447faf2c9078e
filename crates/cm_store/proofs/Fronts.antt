-- What stands behind a front.
use Rattle.std.proofs.Common.{◌≡◌, ℕ, ◌+◌, List, length, drop, Option, Some, None, Bool, true, false, cond, ◌||◌, ◌&&◌, not, ◌≢◌, [], nat_eq, if◌then◌else◌, Bor, refl, ap, sym, subst, ◌∙◌}
use Rattle.std.proofs.lemmas.Str.Pattern.{starts_text}
use Rattle.std.specs.List.{starts_with}
use Rattle.std.specs.Option.{option_map, MatchOption}
use Rattle.std.proofs.lemmas.Slice.Eq.{bytes_eq-Decides}
use Rattle.std.specs.Str.{IsCharBoundary, bytes_eq}
use Rattle.cm_store.specs.Below.{is_below, has_part}
use Rattle.cm_store.specs.Listing.{part_of}
use Rattle.std.specs.Str.Pattern.{FindsTextPrefix}

-- what `strip_prefix` leaves
pub stripped : (front name : List ℕ) (r : Option (Bor (List ℕ)))
    → MatchOption r (FindsTextPrefix front name None) (λ x. (n : ℕ) × FindsTextPrefix front name (Some n) × (x.now ≡ drop n name) × (length x.now + n ≡ length name))
    → option_map (λ x. x.now) r ≡ (if starts_with nat_eq name front then Some (drop (length front) name) else None)
stripped front name None lacks = ap (λ b. if b then Some (drop (length front) name) else None) (starts_text false front name lacks)
stripped front name (Some x) (n, finds, rest, fits) =
    let cut : IsCharBoundary name n = subst (IsCharBoundary name) (sym finds.0) finds.2 in
    ap Some (rest ∙ ap (λ k. drop k name) finds.0) ∙ ap (λ b. if b then Some (drop (length front) name) else None) (starts_text true front name (n, finds, cut))

-- a value under a test that passes
pub tested : {X : Type 0} (b : Bool) (x y : X) → Some x ≡ (if b then Some y else None) → (b ≡ true) × (x ≡ y)
tested true x y is = (refl, cc)
tested false x y is = absurd (cc)

-- a test that excludes another, beside a third
beside : (b e old : Bool) → (b ≡ true → e ≡ true → ⊥) → cond b true old ≡ (old || (b && not e))
beside true true old apart = absurd (apart refl refl)
beside true false true apart = refl
beside true false false apart = refl
beside false e true apart = refl
beside false e false apart = refl

-- a part that is set among others
pub part_added : (front name rest part q : List ℕ) (old : Bool) → Some rest ≡ (if is_below front name then Some (drop (length front) name) else None)
    → part ≡ part_of rest → part ≢ [] → cond (bytes_eq part q) true old ≡ (old || has_part front q name)
part_added front name rest part q old is cut some =
    let below = tested (is_below front name) rest (drop (length front) name) is in
    let whole : part ≡ part_of (drop (length front) name) = cut ∙ ap part_of below.1 in
    let apart : bytes_eq part q ≡ true → bytes_eq q [] ≡ true → ⊥ = λ same empty. some ((bytes_eq-Decides part q).0 same ∙ (bytes_eq-Decides q []).0 empty) in
    beside (bytes_eq part q) (bytes_eq q []) old apart
    ∙ ap (λ p. old || (bytes_eq p q && not (bytes_eq q []))) whole
    ∙ ap (λ b. old || (b && (bytes_eq (part_of (drop (length front) name)) q && not (bytes_eq q [])))) (sym below.0)
