-- The contents that lists of files and counts stand for.
use Rattle.std.specs.Prelude.{ℕ, List, map}
use Rattle.std.specs.FinMap.{from_entries}
use Rattle.cm_store.specs.Contents.{Contents, Named}
use Rattle.cm_store.specs.declared.lists.StoredFile.{StoredFile}
use Rattle.cm_store.specs.declared.lists.UnnamedCount.{UnnamedCount}

-- of several files of one name the first counts
abbrev pub files_of : List StoredFile → Named (List ℕ)
files_of files = from_entries (map (λ f. (f.name, f.bytes)) files)

abbrev pub counts_of : List UnnamedCount → Named ℕ
counts_of counts = from_entries (map (λ c. (c.name, c.count)) counts)

abbrev pub contents_of : List StoredFile → List UnnamedCount → Contents
contents_of files counts = record { files = files_of files; unnamed = counts_of counts }
