-- The parts that stored names go on with behind a front.
use Rattle.std.proofs.Common.{arith, ◌≡◌, ◌↔◌, ℕ, zero, suc, ◌<◌, List, [], ◌∷◌, ◌++◌, length, drop, take, map, is_some, IsSome, Bool, true, false, not, ◌&&◌, ◌||◌, Global, String, string_bytes, Contains, refl, ap, sym, ◌∙◌, subst}
use Rattle.std.proofs.Math.Seq.{take-append_seam, drop-append_seam}
use Rattle.std.proofs.lemmas.List.{take-append-drop, get_or-map, length-map}
use Rattle.std.proofs.lemmas.List.Folds.{Any-from_list_any, list_any_at}
use Rattle.std.proofs.lemmas.Map.Text.{is_eq-slice_cmp}
use Rattle.std.proofs.lemmas.Slice.Eq.{bytes_eq-Decides}
use Rattle.std.specs.Str.{bytes_eq}
use Rattle.std.specs.BTreeSet.{BTreeSet, contains_text}
use Rattle.std.specs.Ordering.{is_eq, nat_cmp}
use Rattle.std.specs.Cmp.Lexicographic.{slice_cmp}
use Rattle.std.specs.List.{list_any, slice_index_or}
use Rattle.std.specs.FinMap.{get}
use Rattle.cm_store.specs.Below.{is_below, has_part}
use Rattle.cm_store.specs.Files.{files_of}
use Rattle.cm_store.specs.Listing.{IsFolder, IsPart, part_of}
use Rattle.cm_store.specs.declared.lists.StoredFile.{StoredFile}
use Rattle.cm_store.proofs.Lookup.{is_named, is_some-get}

-- where a test passes for some file of the list, some stored name passes it
some_name : (p : List ℕ → Bool) (files : List StoredFile) → list_any (λ f. p f.name) files ≡ true → (n : List ℕ) × IsSome (get (files_of files) n) × (p n ≡ true)
some_name p files any =
    let (k, f, within, at, passes) = Any-from_list_any (λ g. p g.name) files any in
    let same : bytes_eq f.name f.name ≡ true = (bytes_eq-Decides f.name f.name).1 refl in
    let listed : list_any (is_named f.name) files ≡ true = list_any_at (is_named f.name) files k f within (ap (is_named f.name) at ∙ same) in
    (f.name, is_some-get f.name files ∙ listed, passes)

any_name : (p : List ℕ → Bool) (files : List StoredFile) (n : List ℕ) → IsSome (get (files_of files) n) → p n ≡ true → list_any (λ f. p f.name) files ≡ true
any_name p files n stored passes =
    let (k, f, within, at, named) = Any-from_list_any (is_named n) files (sym (is_some-get n files) ∙ stored) in
    list_any_at (λ g. p g.name) files k f within (ap (λ g. p g.name) at ∙ ap p (sym ((bytes_eq-Decides n f.name).0 named)) ∙ passes)

below_front : (front rest : List ℕ) → is_below front (front ++ rest) ≡ true
below_front front rest = (bytes_eq-Decides front (take (length front) (front ++ rest))).1 (sym (take-append_seam front rest))

behind_front : (front name : List ℕ) → is_below front name ≡ true → front ++ drop (length front) name ≡ name
behind_front front name below = ap (λ t. t ++ drop (length front) name) ((bytes_eq-Decides front (take (length front) name)).0 below) ∙ take-append-drop (length front) name

pub IsFolder-from_any : (files : List StoredFile) (front : List ℕ) → list_any (λ f. is_below front f.name) files ≡ true → IsFolder (files_of files) front
IsFolder-from_any files front any =
    let (name, stored, below) = some_name (is_below front) files any in
    (drop (length front) name, ap (λ n. is_some (get (files_of files) n)) (behind_front front name below) ∙ stored)

pub any-from_IsFolder : (files : List StoredFile) (front : List ℕ) → IsFolder (files_of files) front → list_any (λ f. is_below front f.name) files ≡ true
any-from_IsFolder files front (rest, stored) = any_name (is_below front) files (front ++ rest) stored (below_front front rest)

both : (a b : Bool) → a && b ≡ true → (a ≡ true) × (b ≡ true)
both true b h = (refl, h)
both false b h = absurd (cc)

and_both : (a b : Bool) → a ≡ true → b ≡ true → a && b ≡ true
and_both true b p q = q
and_both false b p q = absurd (cc)

denied : (b : Bool) → not b ≡ true → b ≡ true → ⊥
denied true p q = absurd (cc)
denied false p q = absurd (cc)

denies : (b : Bool) → (b ≡ true → ⊥) → not b ≡ true
denies true h = absurd (h refl)
denies false h = refl

IsPart-from_any : (files : List StoredFile) (front q : List ℕ) → list_any (λ f. has_part front q f.name) files ≡ true → IsPart (files_of files) front q
IsPart-from_any files front q any =
    let (name, stored, passes) = some_name (has_part front q) files any in
    let rest = drop (length front) name in
    let (below, more) = both (is_below front name) (bytes_eq (part_of rest) q && not (bytes_eq q [])) passes in
    let (part, some) = both (bytes_eq (part_of rest) q) (not (bytes_eq q [])) more in (
      λ empty. denied (bytes_eq q []) some ((bytes_eq-Decides q []).1 empty),
      (rest, ap (λ n. is_some (get (files_of files) n)) (behind_front front name below) ∙ stored, (bytes_eq-Decides (part_of rest) q).0 part),
    )

any-from_IsPart : (files : List StoredFile) (front q : List ℕ) → IsPart (files_of files) front q → list_any (λ f. has_part front q f.name) files ≡ true
any-from_IsPart files front q (some, (rest, stored, part)) =
    let left : part_of (drop (length front) (front ++ rest)) ≡ q = ap part_of (drop-append_seam front rest) ∙ part in
    any_name (has_part front q) files (front ++ rest) stored
    (and_both (is_below front (front ++ rest)) (bytes_eq (part_of (drop (length front) (front ++ rest))) q && not (bytes_eq q [])) (below_front front rest)
    (and_both (bytes_eq (part_of (drop (length front) (front ++ rest))) q) (not (bytes_eq q [])) ((bytes_eq-Decides (part_of (drop (length front) (front ++ rest))) q).1 left)
    (denies (bytes_eq q []) (λ empty. some ((bytes_eq-Decides q []).0 empty)))))

either : (a : Bool) {b : Bool} → b ≡ true → a || b ≡ true
either true h = refl
either false h = h

-- the texts of a set
texts : BTreeSet (String Global) → List (List ℕ)
texts s = map (λ k. string_bytes k) s.keys

Contains-from_text : (s : BTreeSet (String Global)) (q : List ℕ) → contains_text s q ≡ true → Contains (texts s) q
unfolding texts
Contains-from_text s q has =
    let (i, k, within, at, tied) = Any-from_list_any (λ x. is_eq (slice_cmp nat_cmp q (string_bytes x))) s.keys has in
    let same : q ≡ string_bytes k = (bytes_eq-Decides q (string_bytes k)).0 (sym (is_eq-slice_cmp q (string_bytes k)) ∙ tied) in
    (i, subst (λ n. i < n) (sym (length-map s.keys (λ x. string_bytes x))) within, get_or-map (λ x. string_bytes x) s.keys i k q within ∙ ap (λ x. string_bytes x) at ∙ sym same)

any_text : (keys : List (String Global)) (q : List ℕ) (i : ℕ) → i < length (map (λ k. string_bytes k) keys) → slice_index_or (map (λ k. string_bytes k) keys) i q ≡ q
    → list_any (λ k. is_eq (slice_cmp nat_cmp q (string_bytes k))) keys ≡ true
any_text [] q i within at = absurd (omega arith)
any_text (k ∷ keys) q zero within at =
    let tied : is_eq (slice_cmp nat_cmp q (string_bytes k)) ≡ true = is_eq-slice_cmp q (string_bytes k) ∙ (bytes_eq-Decides q (string_bytes k)).1 (sym at) in
    ap (λ b. b || list_any (λ x. is_eq (slice_cmp nat_cmp q (string_bytes x))) keys) tied
any_text (k ∷ keys) q (suc i) within at =
    either (is_eq (slice_cmp nat_cmp q (string_bytes k))) (any_text keys q i (omega arith) at)

-- a set of all parts has the parts as its texts
pub parts_in_set : (files : List StoredFile) (front : List ℕ) (s : BTreeSet (String Global)) → ((q : List ℕ) → contains_text s q ≡ list_any (λ f. has_part front q f.name) files)
    → (q : List ℕ) → Contains (map (λ k. string_bytes k) s.keys) q ↔ IsPart (files_of files) front q
unfolding texts
parts_in_set files front s all q = (
  λ has. IsPart-from_any files front q (sym (all q) ∙ any_text s.keys q has.0 has.1 has.2),
  λ part. Contains-from_text s q (all q ∙ any-from_IsPart files front q part),
)
