-- The row of a file before it is replaced.
use Rattle.std.specs.Prelude.{◌≡◌, ◌≢◌, Bool, false, ℕ, List, Option, if◌then◌else◌}
use Rattle.cm_store.specs.Contents.{Contents, replaced}
use Rattle.run_report.specs.declared.answer.RowAnswer.TheVariants.{Ok}
use Rattle.codemod_cmd.specs.Rows.{Row, answered, refused}
use Rattle.codemod_cmd.specs.declared.file_row.FileRow.{FileRow}
use Rattle.codemod_cmd.specs.declared.file_row.FileRow.TheVariants.{Answered, Refused}

abbrev pub row_of : FileRow → Row
row_of (Answered outcome) = answered outcome.answer outcome.text.items
row_of (Refused error) = refused error

-- the file is to have this text
abbrev pub HasText : Row → List ℕ → Type 0
HasText row text = row ≡ answered Ok text

abbrev pub HasNoText : Row → Type 0
HasNoText row = (text : List ℕ) → row ≢ answered Ok text

-- the new text could not be written, and the name may have it all the same
abbrev pub IsUnwritten : Bool → Option Contents → Option Contents → List ℕ → Row → Type 0
IsUnwritten dry held now name row = (text : List ℕ) × (stays : Bool) × (dry ≡ false) × HasText row text × (now ≡ (if stays then replaced held name text else held))
