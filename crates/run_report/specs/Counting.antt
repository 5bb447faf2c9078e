-- How many rows of each kind there were.
use Rattle.std.specs.Prelude.{ℕ, ◌+◌, ◌-◌, ◌^◌, min}
use Rattle.run_report.specs.declared.counts.Counts.{Counts}
use Rattle.run_report.specs.declared.answer.RowAnswer.{RowAnswer}
use Rattle.run_report.specs.declared.answer.RowAnswer.TheVariants.{Ok, Unmodified, Skipped, Error}

abbrev pub no_counts : Counts
no_counts = record { errors = 0; unmodified = 0; skipped = 0; ok = 0 }

-- a count has 64 bits and stays at its end
abbrev pub one_more : ℕ → ℕ
one_more n = min (n + 1) (2 ^ 64 - 1)

-- the counts with this row's
abbrev pub counted : Counts → RowAnswer → Counts
counted c Ok = record c { ok = one_more c.ok }
counted c Unmodified = record c { unmodified = one_more c.unmodified }
counted c Skipped = record c { skipped = one_more c.skipped }
counted c (Error _) = record c { errors = one_more c.errors }
