-- Replacing the first file of a name in a list.
use Rattle.std.proofs.Common.{arith, ◌≡◌, ℕ, zero, suc, ◌<◌, List, [], ◌∷◌, ◌++◌, length, slice_set, Option, Some, None, Bool, true, false, cond, refl, ap, sym, ◌∙◌}
use Rattle.std.proofs.lemmas.List.{map-append}
use Rattle.std.proofs.lemmas.List.Quantifiers.{position-Some}
use Rattle.std.proofs.lemmas.Map.Text.{is_eq-slice_cmp}
use Rattle.std.proofs.lemmas.Slice.Eq.{bytes_eq-Decides}
use Rattle.std.specs.Str.{bytes_eq}
use Rattle.std.specs.List.{position, slice_index_or}
use Rattle.std.specs.Ordering.{nat_cmp}
use Rattle.std.specs.Cmp.Lexicographic.{slice_cmp, nat_list_cmp_total}
use Rattle.std.specs.FinMap.{find, get, insert, from_entries, get-from_entries, get-insert, same_map, from_entries_push, slice_cmp-IsAntisymmetric, nat_cmp-IsAntisymmetric}
use Rattle.cm_store.specs.Files.{files_of}
use Rattle.cm_store.specs.declared.lists.StoredFile.{StoredFile}
use Rattle.cm_store.proofs.Lookup.{is_named, pairs, find-nowhere}

-- what a name finds
abbrev found : List ℕ → List StoredFile → Option (List ℕ)
found q files = find (slice_cmp nat_cmp) q (pairs files)

found-cons : (q : List ℕ) (f : StoredFile) (files : List StoredFile) → found q (f ∷ files) ≡ cond (bytes_eq q f.name) (Some f.bytes) (found q files)
found-cons q f files = ap (λ b. cond b (Some f.bytes) (found q files)) (is_eq-slice_cmp q f.name)

same_name : (a b : List ℕ) → bytes_eq a b ≡ true → a ≡ b
same_name a b e = (bytes_eq-Decides a b).0 e

-- of two tests for the same name only the first counts
shadowed : {A : Type 0} (b : Bool) (x y z : A) → cond b x (cond b y z) ≡ cond b x z
shadowed true x y z = refl
shadowed false x y z = refl

-- tests for two different names may change places
swapped : {A : Type 0} (a b : Bool) (x y z : A) → (a ≡ true → b ≡ true → ⊥) → cond a x (cond b y z) ≡ cond b y (cond a x z)
swapped true true x y z apart = absurd (apart refl refl)
swapped true false x y z apart = refl
swapped false true x y z apart = refl
swapped false false x y z apart = refl

found-set : (files : List StoredFile) (i : ℕ) (g : StoredFile) (q : List ℕ) → i < length files → bytes_eq g.name (slice_index_or files i g).name ≡ true
    → ((k : ℕ) → k < i → bytes_eq g.name (slice_index_or files k g).name ≡ false) → found q (slice_set files i g) ≡ cond (bytes_eq q g.name) (Some g.bytes) (found q files)
found-set [] i g q within same before = absurd (omega arith)
found-set (f ∷ files) zero g q within same before =
    found-cons q g files
    ∙ sym (shadowed (bytes_eq q g.name) (Some g.bytes) (Some f.bytes) (found q files))
    ∙ ap (λ n. cond (bytes_eq q g.name) (Some g.bytes) (cond (bytes_eq q n) (Some f.bytes) (found q files))) (same_name g.name f.name same)
    ∙ ap (cond (bytes_eq q g.name) (Some g.bytes)) (sym (found-cons q f files))
found-set (f ∷ files) (suc i) g q within same before =
    let rest : found q (slice_set files i g) ≡ cond (bytes_eq q g.name) (Some g.bytes) (found q files) = found-set files i g q (omega arith) same (λ k below. before (suc k) (omega arith)) in
    let apart : bytes_eq q f.name ≡ true → bytes_eq q g.name ≡ true → ⊥ = λ a b.
    let differ : bytes_eq g.name f.name ≡ false = before 0 (omega arith) in
    let equal : bytes_eq g.name f.name ≡ true = (bytes_eq-Decides g.name f.name).1 (sym (same_name q g.name b) ∙ same_name q f.name a) in
    cc (differ, equal) in
    found-cons q f (slice_set files i g)
    ∙ ap (cond (bytes_eq q f.name) (Some f.bytes)) rest
    ∙ swapped (bytes_eq q f.name) (bytes_eq q g.name) (Some f.bytes) (Some g.bytes) (found q files) apart
    ∙ ap (cond (bytes_eq q g.name) (Some g.bytes)) (sym (found-cons q f files))

-- a file in the place of the name's first one
pub files_of-set : (files : List StoredFile) (i : ℕ) (g : StoredFile) → position (is_named g.name) files ≡ Some i → files_of (slice_set files i g) ≡ insert (files_of files) g.name g.bytes
files_of-set files i g is =
    let at = position-Some (is_named g.name) files i g is in
    let same : (q : List ℕ) → get (files_of (slice_set files i g)) q ≡ get (insert (files_of files) g.name g.bytes) q = λ q.
    get-from_entries nat_list_cmp_total (pairs (slice_set files i g)) q
    ∙ found-set files i g q at.0 at.1 at.2
    ∙ sym (get-insert nat_list_cmp_total (files_of files) g.name g.bytes q
    ∙ ap (λ b. cond b (Some g.bytes) (get (files_of files) q)) (is_eq-slice_cmp q g.name)
    ∙ ap (cond (bytes_eq q g.name) (Some g.bytes)) (get-from_entries nat_list_cmp_total (pairs files) q)) in
    same_map nat_list_cmp_total (slice_cmp-IsAntisymmetric nat_cmp-IsAntisymmetric) _ _ same

-- a file of a new name at the end
pub files_of-push : (files : List StoredFile) (g : StoredFile) → position (is_named g.name) files ≡ None → files_of (files ++ g ∷ []) ≡ insert (files_of files) g.name g.bytes
files_of-push files g none =
    ap (λ es. from_entries es) (map-append (λ f. (f.name, f.bytes)) files (g ∷ []))
    ∙ from_entries_push nat_list_cmp_total (slice_cmp-IsAntisymmetric nat_cmp-IsAntisymmetric) (pairs files) g.name g.bytes (find-nowhere g.name files none)
