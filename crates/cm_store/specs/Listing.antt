-- What stands in a folder, and what a listing answers. A slash has the code 47.
use Rattle.std.specs.Prelude.{◌≡◌, ◌≢◌, ◌↔◌, ℕ, ◌==◌, nat_eq, if◌then◌else◌, List, [], ◌∷◌, ◌++◌, map, All, Contains, Result, Ok, Err, None, IsTrue, IsSome, unwrap_or}
use Rattle.std.specs.List.{before_first, ends_with}
use Rattle.std.specs.List.Sorted.{IsStrictlySortedBy}
use Rattle.std.specs.Ordering.{nat_cmp}
use Rattle.std.specs.Cmp.Lexicographic.{slice_cmp}
use Rattle.std.specs.FinMap.{get}
use Rattle.cm_store.specs.Contents.{Contents, Named}
use Rattle.cm_store.specs.declared.store.ListAnswer.{ListAnswer}
use Rattle.cm_store.specs.declared.store.ListAnswer.TheVariants.{Missing, Failed, NoMemory}
use Rattle.cm_store.specs.declared.store.Entry.{Entry}
use Rattle.cm_store.specs.declared.store.Listing.{Listing}
use Rattle.cm_store.specs.declared.store.Listing.TheVariants.{File, Folder}

-- what the names of all that stands in the folder begin with
abbrev pub front_of : List ℕ → List ℕ
front_of name = if ends_with nat_eq name (47 ∷ []) then name else name ++ 47 ∷ []

-- the first part of a name's rest: up to its first slash, or all of it
abbrev pub part_of : List ℕ → List ℕ
part_of rest = before_first (λ b. b == 47) rest

-- some stored name begins with the front
abbrev pub IsFolder : Named (List ℕ) → List ℕ → Type 0
IsFolder files front = (rest : List ℕ) × IsSome (get files (front ++ rest))

-- behind the front some stored name goes on with this part
abbrev pub IsPart : Named (List ℕ) → List ℕ → List ℕ → Type 0
IsPart files front part = (part ≢ []) × ((rest : List ℕ) × IsSome (get files (front ++ rest)) × (part_of rest ≡ part))

-- the entries are these parts, each once and in byte order. A part that is no file is a folder
pub record HasEntries (files : Named (List ℕ)) (front : List ℕ) (entries : List Entry) : Type 0 where
  pub parts : (part : List ℕ) → Contains (map (λ e. e.name) entries) part ↔ IsPart files front part
  pub order : IsStrictlySortedBy (slice_cmp nat_cmp) (map (λ e. e.name) entries)
  pub folders : All (λ e. IsTrue e.folder ↔ (get files (front ++ e.name) ≡ None)) entries

-- the answer to a listing of the name. The last two say nothing of what stands there
abbrev pub Lists : Contents → List ℕ → Result Listing ListAnswer → Type 0
Lists c name (Ok File) = IsSome (get c.files name)
Lists c name (Ok (Folder entries unnamed)) = (get c.files name ≡ None) × IsFolder c.files (front_of name) × HasEntries c.files (front_of name) entries × (unnamed ≡ unwrap_or (get c.unnamed name) 0)
Lists c name (Err Missing) = (get c.files name ≡ None) × (IsFolder c.files (front_of name) → ⊥)
Lists c name (Err Failed) = Unit {0}
Lists c name (Err NoMemory) = Unit {0}
