-- What follows where the rows of a table stand in the order of an enum.
use Rattle.std.proofs.Common.{◌≡◌, sym, ◌∙◌, ap, ℕ, zero, suc, ◌+◌, ◌<◌, ◌==◌, true, List, [], ◌∷◌, Some, slice_get, get_or, length, map, arith}
use Rattle.std.proofs.lemmas.Bool.{and_parts, eqb-true}
use Rattle.std.proofs.lemmas.List.{get_or-map, length-map}
use Rattle.std.proofs.lemmas.Option.{slice_get-get_or}
use denote.Enum.Declared.{Declared, tag_of, variants}
use denote.Enum.Bare.{Bare, tag_one}
use borrow.Enum.Match.{tag_small}
use Rattle.type_defs.specs.Rows.{in_order}

-- a row's place is that of its variant
place : (D : Declared) (xs : List D.D) (n i : ℕ) (x : D.D) → in_order D n xs ≡ true → slice_get xs i ≡ Some x → tag_of D x ≡ n + i
unfolding in_order
place D [] n i x h e = absurd (cc)
place D (y ∷ xs) n zero x h e =
    let here = eqb-true (tag_of D y) n (and_parts (tag_of D y == n) (in_order D (suc n) xs) h).0 in
    let same : y ≡ x = cc in
    let at = ap (tag_of D) (sym same) ∙ here in
    omega arith
place D (y ∷ xs) n (suc i) x h e =
    let behind = place D xs (suc n) i x (and_parts (tag_of D y == n) (in_order D (suc n) xs) h).1 e in
    omega arith

-- each variant has a row
pub row_at : (D : Declared) → Bare D.parts → (xs : List D.D) → in_order D 0 xs ≡ true → length (variants D) ≡ length xs → (x : D.D) → slice_get xs (tag_of D x) ≡ Some x
row_at D bare xs h all x =
    let small = tag_small D x in
    let found : slice_get xs (tag_of D x) ≡ Some (get_or xs (tag_of D x) x) = slice_get-get_or xs (tag_of D x) x (omega arith) in
    let at = place D xs 0 (tag_of D x) (get_or xs (tag_of D x) x) h found in
    found ∙ ap Some (tag_one D bare (get_or xs (tag_of D x) x) x (omega arith))

-- a row's entry in a column
pub entry : {R C : Type 0} (f : R → C) (rows : List R) (column : List C) (i : ℕ) (other : R) → map f rows ≡ column → i < length rows → slice_get column i ≡ Some (f (get_or rows i other))
entry f rows column i other e lt =
    let within : i < length (map f rows) = simp length-map lt in
    ap (λ xs. slice_get xs i) (sym e) ∙ (slice_get-get_or (map f rows) i (f other) within ∙ ap Some (get_or-map f rows i other (f other) lt))
