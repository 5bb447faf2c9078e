-- What is seen under a name.
use Rattle.std.specs.Prelude.{ℕ, Option}
use Rattle.cm_store.specs.Contents.{Contents}
use Rattle.codemod_cmd.specs.Folders.{Place, IsFile, IsFolder, IsUnlisted}
use Rattle.codemod_cmd.specs.Rows.{faults_in}
use Rattle.codemod_cmd.specs.declared.sight.Sight.{Sight}
use Rattle.codemod_cmd.specs.declared.sight.Sight.TheVariants.{File, Folder, Refused}

abbrev pub IsSight : Option Contents → Place → Sight → Type 0
IsSight held p File = IsFile held p
IsSight held p (Folder entries unnamed) = IsFolder held p entries unnamed
IsSight held p (Refused error) = IsUnlisted held p error

abbrev pub sight_faults : Sight → ℕ
sight_faults (Refused error) = faults_in error
sight_faults _ = 0
