-- Runs that leave the store as it was, and scripts that are not run.
use Rattle.std.proofs.Common.{◌≡◌, ℕ, Bool, true, List, [], ◌++◌, Some, None, inl, inr, length, refl, sym, ap, subst, ◌+◌, ◌∙◌, arith}
use Rattle.std.specs.Prelude.{Option, if◌then◌else◌}
use Rattle.std.specs.Str.{IsUtf8}
use Rattle.std.proofs.lemmas.Bool.{false≢true}
use Rattle.std.proofs.lemmas.Str.{is_utf8-from_IsUtf8}
use Rattle.cm_store.specs.Contents.{Contents, replaced}
use Rattle.command_words.specs.declared.invocation.Invocation.{Invocation}
use Rattle.command_words.specs.declared.invocation.Request.{Request}
use Rattle.command_words.specs.declared.invocation.Request.TheVariants.{Run}
use Rattle.run_report.specs.declared.answer.RowAnswer.{RowAnswer}
use Rattle.run_report.specs.declared.answer.RowAnswer.TheVariants.{Ok, Unmodified, Skipped, Error}
use Rattle.codemod_cmd.specs.Rows.{Row, answered, refused, unwritten, IsRow, leaves, after}
use Rattle.codemod_cmd.specs.Folders.{Place, places, inside, Goes, no_row, a_file, no_file, a_folder}
use Rattle.codemod_cmd.specs.Script.{Codemod}
use Rattle.codemod_cmd.specs.Session.{Outside, Runs, WritesLine, Asks, says_of, LacksScript, Finishes, Stops, EndsBy, first_places}
use Rattle.codemod_cmd.specs.declared.status.Status.{Status}
use Rattle.codemod_cmd.specs.declared.status.Status.TheVariants.{Done, HadErrors, Usage, NoScript, NoMemory, OutputFault}
use Rattle.codemod_cmd.proofs.Rowed.{after_unnamed}

row_kept : (says : List ℕ → RowAnswer → List ℕ → Type 0) (dry : Bool) (held : Option Contents) (name : List ℕ) (row : Row) → dry ≡ true → IsRow says dry held name row → leaves dry held name row ≡ held
row_kept says dry held name (answered Ok text) e is = ap (λ b. if b then held else replaced held name text) e
row_kept says dry held name (answered Unmodified text) e is = refl
row_kept says dry held name (answered Skipped text) e is = refl
row_kept says dry held name (answered (Error error) text) e is = refl
row_kept says dry held name (refused error) e is = refl
row_kept says dry held name (unwritten text stays) e is = absurd (cc (e, is.0))

module _ (says : List ℕ → RowAnswer → List ℕ → Type 0) (command : Invocation) (dry : command.dry ≡ true) where
  all_kept : (ps : List Place) (held : Option Contents) (rows : List (List ℕ × Row)) (rest : List Place) → Goes says command ps held rows rest → after command.dry held rows ≡ held
  all_kept _ _ _ _ (no_row ps held) = refl
  all_kept _ _ _ _ (a_file p ps rest held row rows is comes goes) =
      all_kept ps (leaves command.dry held p.name row) rows rest goes ∙ row_kept says command.dry held p.name row dry comes
  all_kept _ _ _ _ (no_file p ps rest held error rows is goes) = all_kept ps held rows rest goes
  all_kept _ _ _ _ (a_folder p ps rest held entries unnamed rows is goes) =
      after_unnamed command.dry held p.name unnamed rows ∙ all_kept (places (p.level + 1) (inside command.extensions p.name entries) ++ ps) held rows rest goes

  run_kept : (ps rest : List Place) (rows : List (List ℕ × Row)) (w v : Outside) → Runs says command ps rest rows w v → v.held ≡ w.held
  run_kept ps rest rows w v p = p.held ∙ all_kept ps w.held rows rest p.goes

line_kept : (request : Option Request) (w v : Outside) (line : List ℕ) (status : Status) → WritesLine request w v line status → v.held ≡ w.held
line_kept request w v line Usage h = h.1
line_kept request w v line NoScript h = h.4
line_kept request w v line Done h = h.2
line_kept request w v line HadErrors h = absurd h
line_kept request w v line NoMemory h = absurd h
line_kept request w v line OutputFault h = absurd h

same_command : (request : Option Request) (a b : Invocation) → request ≡ Some (Run a) → request ≡ Some (Run b) → b ≡ a
same_command request a b p q = cc

-- a dry run, to its end or not
module _ (request : Option Request) (w v : Outside) (command : Invocation) (asks : request ≡ Some (Run command)) (dry : command.dry ≡ true) where
  pub finished_dry : (status : Status) → Finishes request w v status → v.held ≡ w.held
  finished_dry status (inl h) = line_kept request w v h.0 status h.1
  finished_dry status (inr h) =
      let same = same_command request command h.0 asks h.2.0 in
      run_kept (says_of h.1 h.0.fuel) h.0 (ap (λ (i : Invocation). i.dry) same ∙ dry) (first_places h.0) [] h.3.0 w v h.3.1

  pub stopped_dry : Stops request w v → v.held ≡ w.held
  stopped_dry (inl h) = h.held
  stopped_dry (inr (inl h)) = line_kept request w v h.0 h.1 h.2
  stopped_dry (inr (inr h)) =
      let same = same_command request command h.0 asks h.2.0 in
      run_kept (says_of h.1 h.0.fuel) h.0 (ap (λ (i : Invocation). i.dry) same ∙ dry) (first_places h.0) h.3.1 h.3.0 w v h.3.2

-- a script that the store lacks is not run
not_run : (held : Option Contents) (script : List ℕ) (codemod : Codemod) → Asks held script codemod → LacksScript held script → ⊥
not_run None script codemod asks lacks = lacks
not_run (Some c) script codemod asks (inl none) = absurd (cc (none, asks.1.0))
not_run (Some c) script codemod asks (inr h) =
    let both : ◌≡◌ {A = Option (List ℕ)} (Some asks.0) (Some h.0) = sym asks.1.0 ∙ h.1 in
    let same : asks.0 ≡ h.0 = cc in
    elim h.2 [
      | inl long ↦ absurd (omega (arith, long, asks.1.1, ap length same))
      | inr other ↦ absurd (false≢true (sym other ∙ is_utf8-from_IsUtf8 h.0 (subst IsUtf8 same asks.2.utf8)))
    ]

pub no_script : (request : Option Request) (w v : Outside) (status : Status) (command : Invocation) → request ≡ Some (Run command) → LacksScript w.held command.script → Finishes request w v status → EndsBy NoScript status
no_script request w v Usage command asks lacks (inl h) = absurd (cc (asks, h.1.0))
no_script request w v NoScript command asks lacks (inl h) = inl refl
no_script request w v Done command asks lacks (inl h) = absurd (cc (asks, h.1.1))
no_script request w v HadErrors command asks lacks (inl h) = absurd h.1
no_script request w v NoMemory command asks lacks (inl h) = absurd h.1
no_script request w v OutputFault command asks lacks (inl h) = absurd h.1
no_script request w v status command asks lacks (inr h) =
    let same = same_command request command h.0 asks h.2.0 in
    absurd (not_run w.held h.0.script h.1 h.2.1 (subst (λ (i : Invocation). LacksScript w.held i.script) (sym same) lacks))
