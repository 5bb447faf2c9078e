-- Looking up the first file of a name in a list.
use Rattle.std.proofs.Common.{arith, nat_lt, ◌≡◌, ℕ, ◌<◌, List, [], ◌∷◌, length, map, Option, Some, None, is_some, is_none, not, ◌||◌, Bool, true, false, cond, refl, ap, ◌∙◌}
use Rattle.std.proofs.lemmas.Bool.Decides.{nat_tests}
use Rattle.std.proofs.lemmas.List.Folds.{find_at}
use Rattle.std.proofs.lemmas.List.Quantifiers.{position-Some}
use Rattle.std.proofs.lemmas.Option.{slice_get_past, slice_get_read}
use Rattle.std.proofs.lemmas.Map.Text.{is_eq-slice_cmp}
use Rattle.std.specs.Str.{bytes_eq}
use Rattle.std.specs.Option.{option_map}
use Rattle.std.specs.List.{position, position_or_len, slice_get, slice_index_or, find as list_find, list_any}
use Rattle.std.specs.Ordering.{nat_cmp}
use Rattle.std.specs.Cmp.Lexicographic.{slice_cmp, nat_list_cmp_total}
use Rattle.std.specs.FinMap.{find, get, get-from_entries}
use Rattle.cm_store.specs.Files.{files_of, counts_of}
use Rattle.cm_store.specs.declared.lists.StoredFile.{StoredFile}
use Rattle.cm_store.specs.declared.lists.UnnamedCount.{UnnamedCount}

abbrev pub is_named : List ℕ → StoredFile → Bool
is_named q f = bytes_eq q f.name

abbrev pub pairs : List StoredFile → List (List ℕ × List ℕ)
pairs files = map (λ f. (f.name, f.bytes)) files

-- a look-up in a list of pairs, of what they were made of
pub find-mapped : {X V : Type 0} (key : X → List ℕ) (value : X → V) (q : List ℕ) (xs : List X) → find (slice_cmp nat_cmp) q (map (λ x. (key x, value x)) xs) ≡ option_map value (list_find (λ x. bytes_eq q (key x)) xs)
find-mapped key value q [] = refl
find-mapped key value q (x ∷ xs) =
    let rest = find (slice_cmp nat_cmp) q (map (λ y. (key y, value y)) xs) in
    ap (λ b. cond b (Some (value x)) rest) (is_eq-slice_cmp q (key x))
    ∙ elim (bytes_eq q (key x)) as (λ b. cond b (Some (value x)) rest ≡ option_map value (cond b (Some x) (list_find (λ y. bytes_eq q (key y)) xs))) [ true ↦ refl | false ↦ find-mapped key value q xs ]

find-files : (q : List ℕ) (files : List StoredFile) → find (slice_cmp nat_cmp) q (pairs files) ≡ option_map (λ f. f.bytes) (list_find (is_named q) files)
find-files q files = find-mapped (λ f. f.name) (λ f. f.bytes) q files

-- the count of a name is the first one's
pub get-counts_of : (q : List ℕ) (counts : List UnnamedCount) → get (counts_of counts) q ≡ option_map (λ c. c.count) (list_find (λ c. bytes_eq q c.name) counts)
get-counts_of q counts = get-from_entries nat_list_cmp_total (map (λ c. (c.name, c.count)) counts) q ∙ find-mapped (λ c. c.name) (λ c. c.count) q counts

-- the map's answer is that of the first file of the name
pub get-files_of : (q : List ℕ) (files : List StoredFile) → get (files_of files) q ≡ option_map (λ f. f.bytes) (list_find (is_named q) files)
get-files_of q files = get-from_entries nat_list_cmp_total (pairs files) q ∙ find-files q files

-- a position is either the first place that passes or none
at_place : {X : Type 0} (xs : List X) (n i : ℕ) → cond (nat_lt n (length xs)) (Some n) None ≡ Some i → slice_get xs n ≡ slice_get xs i
at_place xs n i is = grind (arith, nat_tests)

no_place : {X : Type 0} (xs : List X) (n : ℕ) → cond (nat_lt n (length xs)) (Some n) None ≡ None → slice_get xs n ≡ None
no_place xs n is = slice_get_past xs n (grind (arith, nat_tests))

-- at the position of a name stands its file
pub get-at : (q : List ℕ) (files : List StoredFile) (i : ℕ) (f : StoredFile) → position (is_named q) files ≡ Some i → f ≡ slice_index_or files i f → get (files_of files) q ≡ Some f.bytes
get-at q files i f is at =
    let within : i < length files = (position-Some (is_named q) files i f is).0 in
    let stands : slice_get files i ≡ Some f = slice_get_read files (length files) i f refl within at in
    get-files_of q files ∙ ap (option_map (λ g. g.bytes)) (find_at (is_named q) files ∙ at_place files (position_or_len (is_named q) files) i is ∙ stands)

-- a name without a position has no file
pub find-nowhere : (q : List ℕ) (files : List StoredFile) → position (is_named q) files ≡ None → find (slice_cmp nat_cmp) q (pairs files) ≡ None
find-nowhere q files none = find-files q files ∙ ap (option_map (λ g. g.bytes)) (find_at (is_named q) files ∙ no_place files (position_or_len (is_named q) files) none)

pub get-nowhere : (q : List ℕ) (files : List StoredFile) → position (is_named q) files ≡ None → get (files_of files) q ≡ None
get-nowhere q files none = get-from_entries nat_list_cmp_total (pairs files) q ∙ find-nowhere q files none

is_some-find : (q : List ℕ) (files : List StoredFile) → is_some (option_map (λ f. f.bytes) (list_find (is_named q) files)) ≡ list_any (is_named q) files
is_some-find q [] = refl
is_some-find q (f ∷ files) = elim (bytes_eq q f.name) as (λ b. is_some (option_map (λ g. g.bytes) (cond b (Some f) (list_find (is_named q) files))) ≡ (b || list_any (is_named q) files)) [ true ↦ refl | false ↦ is_some-find q files ]

-- a name has a file where it is that of some file in the list
pub is_some-get : (q : List ℕ) (files : List StoredFile) → is_some (get (files_of files) q) ≡ list_any (is_named q) files
is_some-get q files = ap is_some (get-files_of q files) ∙ is_some-find q files

is_none-not : {X : Type 0} (o : Option X) → is_none o ≡ not (is_some o)
is_none-not None = refl
is_none-not (Some x) = refl

pub is_none-get : (q : List ℕ) (files : List StoredFile) → is_none (get (files_of files) q) ≡ not (list_any (is_named q) files)
is_none-get q files = is_none-not (get (files_of files) q) ∙ ap not (is_some-get q files)

pub none_is : {X : Type 0} (o : Option X) → is_none o ≡ true → o ≡ None
none_is None h = refl
none_is (Some x) h = absurd (cc)
