-- From the rows of all places to the end of the run.
use Rattle.std.proofs.Common.{◌≡◌, ℕ, List, [], ◌∷◌, ap, subst, ◌∙◌}
use Rattle.std.specs.Prelude.{Option, if◌then◌else◌, ◌&&◌, nat_lt}
use Rattle.std.specs.Io.KnownBytes.{Appends}
use Rattle.cm_store.specs.Contents.{Contents}
use Rattle.cm_store.specs.Writing.{AppendsFront}
use Rattle.command_words.specs.declared.invocation.Invocation.{Invocation}
use Rattle.run_report.specs.Counting.{no_counts}
use Rattle.run_report.specs.Texts.{summary_lines}
use Rattle.run_report.specs.declared.counts.Counts.{Counts}
use Rattle.run_report.specs.declared.answer.RowAnswer.{RowAnswer}
use Rattle.codemod_cmd.specs.Rows.{Row, shown_all, counted_all}
use Rattle.codemod_cmd.specs.Folders.{Place}
use Rattle.codemod_cmd.specs.Session.{Outside, outside, Tells, Breaks, first_places, told, Completes, Halts}
use Rattle.codemod_cmd.specs.declared.status.Status.{Status}
use Rattle.codemod_cmd.specs.declared.status.Status.TheVariants.{Done, HadErrors}
use Rattle.codemod_cmd.proofs.Fronts.{appends_both, front_more, front_after}
use Rattle.codemod_cmd.proofs.Rowed.{any_error}

module _ (says : List ℕ → RowAnswer → List ℕ → Type 0) (command : Invocation) (w : Outside) (held : Option Contents) (failed : ℕ) where
  -- the summary behind all rows
  pub completed : (c : Counts) (mid taken : Option (List ℕ)) (status : Status) → Tells says command (first_places command) [] no_counts c w (outside held failed mid)
      → Appends mid taken (summary_lines c) → status ≡ (if command.fail_on_error && nat_lt 0 c.errors then HadErrors else Done) → Completes says command w (outside held failed taken) status
  completed c mid taken status p written is = (
    p.0,
    record { goes = p.1.goes; held = p.1.held; failed = p.1.failed },
    appends_both w.taken mid taken (shown_all command.print p.0) (summary_lines (counted_all no_counts p.0)) p.2 (subst (λ n. Appends mid taken (summary_lines n)) p.3 written),
    is ∙ ap (λ (n : Counts). if command.fail_on_error && nat_lt 0 n.errors then HadErrors else Done) p.3 ∙ ap (λ b. if command.fail_on_error && b then HadErrors else Done) (any_error p.0),
  )

  -- a front of the summary, none of it included
  pub halted : (c : Counts) (mid taken : Option (List ℕ)) → Tells says command (first_places command) [] no_counts c w (outside held failed mid)
      → AppendsFront mid taken (summary_lines c) → Halts says command w (outside held failed taken)
  halted c mid taken p written = (
    p.0,
    [],
    record { goes = p.1.goes; held = p.1.held; failed = p.1.failed },
    front_after w.taken mid taken (shown_all command.print p.0) (summary_lines (counted_all no_counts p.0)) p.2 (subst (λ n. AppendsFront mid taken (summary_lines n)) p.3 written),
  )

told_more : (command : Invocation) (rest : List Place) (rows : List (List ℕ × Row)) (old new : Option (List ℕ)) → AppendsFront old new (shown_all command.print rows) → AppendsFront old new (told command rest rows)
told_more command [] rows old new h = front_more old new (shown_all command.print rows) (summary_lines (counted_all no_counts rows)) h
told_more command (p ∷ rest) rows old new h = h

-- a run that stops among the rows
pub halted_before : (says : List ℕ → RowAnswer → List ℕ → Type 0) (command : Invocation) (w v : Outside) → Breaks says command (first_places command) w v → Halts says command w v
halted_before says command w v p = (p.0, p.1, p.2, told_more command p.1 p.0 w.taken v.taken p.3)
