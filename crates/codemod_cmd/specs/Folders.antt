-- The names that a run comes to: files, and what stands in folders.
use Rattle.std.specs.Prelude.{◌≡◌, ◌⊎◌, ℕ, ◌+◌, ◌<◌, ◌≤◌, Bool, true, false, ◌&&◌, ◌||◌, ◌==◌, if◌then◌else◌, not, nat_eq, List, [], ◌∷◌, ◌++◌, map, Option, Ok, Err, IfSome, codes}
use Rattle.std.specs.List.{filter, list_any, starts_with, ends_with}
use Rattle.std.specs.Str.{bytes_eq}
use Rattle.cm_store.specs.Contents.{Contents}
use Rattle.cm_store.specs.Listing.{Lists, front_of}
use Rattle.cm_store.specs.declared.store.Entry.{Entry}
use Rattle.cm_store.specs.declared.store.Listing.TheVariants.{File, Folder}
use Rattle.cm_store.specs.declared.store.ListAnswer.TheVariants.{Missing as NotThere}
use Rattle.command_words.specs.declared.invocation.Invocation.{Invocation}
use Rattle.run_report.specs.declared.answer.RowAnswer.{RowAnswer}
use Rattle.run_report.specs.declared.answer.RowError.{RowError}
use Rattle.run_report.specs.declared.answer.RowError.TheVariants.{Missing, ListFault, Unnamed, FolderDeep}
use Rattle.codemod_cmd.specs.Rows.{Row, refused, IsRow, leaves}
use Rattle.codemod_cmd.specs.declared.folder.Pending.{Pending}

-- a name whose rows are still to come, so many levels below a named one. One that is listed may be a folder's
pub record Place : Type 0 where
  pub level : ℕ
  pub name : List ℕ
  pub listed : Bool

abbrev pub place : ℕ → Pending → Place
place level p = record { level = level; name = p.name; listed = p.listed }

abbrev pub places : ℕ → List Pending → List Place
places level ps = map (place level) ps

-- a word that names a file or a folder
abbrev pub word : List ℕ → Pending
word name = record { name = name; listed = true }

abbrev pub named : List (List ℕ) → List Pending
named names = map word names

-- the name ends in a dot and the extension
abbrev pub has_extension : List ℕ → List ℕ → Bool
has_extension name extension = ends_with nat_eq name (46 ∷ extension)

-- the entry of a folder is not passed over
abbrev pub is_taken : List (List ℕ) → Entry → Bool
is_taken extensions e = not (starts_with nat_eq e.name (codes ".")) && not (bytes_eq e.name (codes "node_modules")) && (e.folder || list_any (has_extension e.name) extensions)

-- an entry under its whole name
abbrev pub inner : List ℕ → Entry → Pending
inner folder e = record { name = front_of folder ++ e.name; listed = e.folder }

-- the names in a folder that are not passed over
abbrev pub inside : List (List ℕ) → List ℕ → List Entry → List Pending
inside extensions folder entries = map (inner folder) (filter (is_taken extensions) entries)

-- the row of a folder with entries that have no name in UTF-8
abbrev pub unnamed_rows : List ℕ → ℕ → List (List ℕ × Row)
unnamed_rows folder unnamed = if unnamed == 0 then [] else (folder, refused (Unnamed unnamed)) ∷ []

-- folders are listed down to this level
abbrev pub last_level : ℕ
last_level = 64

-- the place is to be listed
abbrev pub IsListed : Place → Type 0
IsListed p = (p.listed ≡ true) × (p.level ≤ last_level)

-- the place is a file's: it is not to be listed, or the listing says so
abbrev pub IsFile : Option Contents → Place → Type 0
IsFile held p = (p.listed ≡ false) ⊎ (IsListed p × IfSome held (λ c. Lists c p.name (Ok File)))

-- the place is a folder's with these entries, and so many without a name
abbrev pub IsFolder : Option Contents → Place → List Entry → ℕ → Type 0
IsFolder held p entries unnamed = IsListed p × IfSome held (λ c. Lists c p.name (Ok (Folder entries unnamed)))

-- the place gives no file and no folder, for this reason
abbrev pub IsUnlisted : Option Contents → Place → RowError → Type 0
IsUnlisted held p Missing = IsListed p × IfSome held (λ c. Lists c p.name (Err NotThere))
IsUnlisted held p ListFault = IsListed p
IsUnlisted held p FolderDeep = (p.listed ≡ true) × (last_level < p.level)
IsUnlisted held p _ = ⊥

-- the rows of the first places, in order, each over what the rows before it left in the store. The last places are still to come: a folder's entries stand in its place
module _ (says : List ℕ → RowAnswer → List ℕ → Type 0) (command : Invocation) where
  pub data Goes : List Place → Option Contents → List (List ℕ × Row) → List Place → Type 0 where
    no_row : (ps : List Place) (held : Option Contents) → Goes ps held [] ps
    a_file : (p : Place) (ps rest : List Place) (held : Option Contents) (row : Row) (rows : List (List ℕ × Row)) → IsFile held p → IsRow says command.dry held p.name row
        → Goes ps (leaves command.dry held p.name row) rows rest → Goes (p ∷ ps) held ((p.name, row) ∷ rows) rest
    no_file : (p : Place) (ps rest : List Place) (held : Option Contents) (error : RowError) (rows : List (List ℕ × Row)) → IsUnlisted held p error
        → Goes ps held rows rest → Goes (p ∷ ps) held ((p.name, refused error) ∷ rows) rest
    a_folder : (p : Place) (ps rest : List Place) (held : Option Contents) (entries : List Entry) (unnamed : ℕ) (rows : List (List ℕ × Row)) → IsFolder held p entries unnamed
        → Goes (places (p.level + 1) (inside command.extensions p.name entries) ++ ps) held rows rest → Goes (p ∷ ps) held (unnamed_rows p.name unnamed ++ rows) rest
