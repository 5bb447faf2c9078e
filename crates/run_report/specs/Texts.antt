-- What a run writes. A text is a list of bytes.
use Rattle.std.specs.Prelude.{ℕ, List, [], ◌++◌, length, codes}
use Rattle.std.specs.Fmt.{decimal}
use Rattle.run_report.specs.Errors.{error_text}
use Rattle.run_report.specs.declared.counts.Counts.{Counts}
use Rattle.run_report.specs.declared.answer.RowError.{RowError}
use Rattle.run_report.specs.declared.answer.RowAnswer.{RowAnswer}
use Rattle.run_report.specs.declared.answer.RowAnswer.TheVariants.{Ok, Unmodified, Skipped, Error}

-- a word, a file's name and what is said of it, as one line
unfoldable pub line : List ℕ → List ℕ → List ℕ → List ℕ
line word name rest = word ++ name ++ rest ++ codes "\n"

unfoldable pub reason : RowError → List ℕ
reason error = codes ": " ++ error_text error

-- the line of a row
unfoldable pub row_line : List ℕ → RowAnswer → List ℕ
row_line name Ok = line (codes "ok ") name []
row_line name Unmodified = line (codes "unmodified ") name []
row_line name Skipped = line (codes "skipped ") name []
row_line name (Error error) = line (codes "error ") name (reason error)

-- the line of a script that is not run
unfoldable pub script_line : List ℕ → RowError → List ℕ
script_line name error = line (codes "script ") name (reason error)

-- a text with its length before it
unfoldable pub printed : List ℕ → List ℕ
printed text = codes "text " ++ decimal (length text) ++ codes "\n" ++ text ++ codes "\n"

unfoldable pub count_line : List ℕ → ℕ → List ℕ
count_line word n = word ++ decimal n ++ codes "\n"

unfoldable pub summary_lines : Counts → List ℕ
summary_lines c = count_line (codes "errors ") c.errors ++ count_line (codes "unmodified ") c.unmodified ++ count_line (codes "skipped ") c.skipped ++ count_line (codes "ok ") c.ok

-- what came of a sample: the length of the text that the script made, or the row of the script's other answer
unfoldable pub sample_end : RowAnswer → List ℕ → List ℕ
sample_end Ok text = count_line (codes "written ") (length text)
sample_end Unmodified text = count_line (codes "written ") (length text)
sample_end Skipped text = row_line (codes "sample") Skipped
sample_end (Error error) text = row_line (codes "sample") (Error error)

-- the lines of a sample of so many functions and so many bytes, by what the script made of it
unfoldable pub sample_lines : ℕ → ℕ → RowAnswer → List ℕ → List ℕ
sample_lines count read answer text = count_line (codes "sample ") count ++ count_line (codes "read ") read ++ sample_end answer text
