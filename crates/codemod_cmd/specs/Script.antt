-- The forms of script that are understood: one gives each identifier of one name another name, one prints what it read.
use Rattle.std.specs.Prelude.{◌≡◌, ◌⊎◌, ℕ, List, [], ◌∷◌, ◌++◌, codes}
use Rattle.first_rename.specs.Names.{IsPlainName}

-- what a script does to a source
pub data Change : Type 0 where
  prints : Change
  renames : List ℕ → List ℕ → Change

-- the script that prints what it read
unfoldable pub printing : List ℕ
printing = codes "module.exports = (file, api) => api.jscodeshift(file.source).toSource();"

unfoldable pub front : List ℕ
front = codes "module.exports = (file, api) => api.jscodeshift(file.source).find(api.jscodeshift.Identifier, { name: \""

unfoldable pub middle : List ℕ
middle = codes "\" }).replaceWith(api.jscodeshift.identifier(\""

unfoldable pub back : List ℕ
back = codes "\")).toSource();"

-- the script that gives each identifier `old` the name `new`
abbrev pub renaming : List ℕ → List ℕ → List ℕ
renaming old new = front ++ old ++ middle ++ new ++ back

-- at most one line feed
abbrev pub IsEnd : List ℕ → Type 0
IsEnd bytes = (bytes ≡ []) ⊎ (bytes ≡ 10 ∷ [])

-- the bytes are the script that prints, with at most one line feed after it
abbrev pub IsPrinting : List ℕ → Type 0
IsPrinting bytes = (end : List ℕ) × IsEnd end × (bytes ≡ printing ++ end)

-- the bytes are the script that renames so, with at most one line feed after it
abbrev pub IsRenaming : List ℕ → List ℕ → List ℕ → Type 0
IsRenaming old new bytes = IsPlainName old × IsPlainName new × ((end : List ℕ) × IsEnd end × (bytes ≡ renaming old new ++ end))

abbrev pub IsNoRenaming : List ℕ → Type 0
IsNoRenaming bytes = (old new : List ℕ) → IsRenaming old new bytes → ⊥

-- the bytes are a script that does this
abbrev pub IsScript : Change → List ℕ → Type 0
IsScript prints bytes = IsPrinting bytes
IsScript (renames old new) bytes = IsRenaming old new bytes

-- the bytes are a script of neither form
abbrev pub IsNoScript : List ℕ → Type 0
IsNoScript bytes = (change : Change) → IsScript change bytes → ⊥

-- what a run does: one of the two forms, or any other script, with its bytes
pub data Codemod : Type 0 where
  special : Change → Codemod
  general : List ℕ → Codemod

-- the bytes are the script of this codemod
abbrev pub IsOf : Codemod → List ℕ → Type 0
IsOf (special change) bytes = IsScript change bytes
IsOf (general script) bytes = (script ≡ bytes) × IsNoScript bytes
