-- How a run ends, from what its words, its script and its files came to.
use Rattle.std.proofs.Common.{◌≡◌, ℕ, List, [], Some, None, Ok, Err, inl, inr, refl, sym, subst}
use Rattle.std.specs.Prelude.{Option, Result, IfOk, OnErr}
use Rattle.std.specs.Io.KnownBytes.{Appends}
use Rattle.cm_store.specs.Contents.{Contents}
use Rattle.cm_store.specs.Writing.{AppendsFront}
use Rattle.command_words.specs.declared.invocation.Invocation.{Invocation}
use Rattle.command_words.specs.declared.invocation.Request.{Request}
use Rattle.command_words.specs.declared.invocation.Request.TheVariants.{Run, Sample}
use Rattle.run_report.specs.Texts.{script_line}
use Rattle.run_report.specs.declared.answer.RowError.{RowError}
use Rattle.run_report.specs.declared.answer.RowError.TheVariants.{Missing, ReadFault, ListFault, WriteFault, Unnamed, FolderDeep, TooLong, NotUtf8, Syntax, Script, Spent, BadNode, NotReadBack, Form}
use Rattle.codemod_cmd.specs.Script.{Codemod}
use Rattle.codemod_cmd.specs.Rows.{HasNone, faults_in, Rises}
use Rattle.codemod_cmd.specs.Session.{Outside, Stays, first_places, told, Completes, Halts, usage_line, says_of, IsUnread, IsNotRun, IsSample, RunsScript, Finishes, Stops}
use Rattle.codemod_cmd.specs.declared.status.Status.{Status}
use Rattle.codemod_cmd.specs.declared.status.Status.TheVariants.{Usage, NoScript, Done}
use Rattle.codemod_cmd.specs.declared.stop.Stop.{Stop}
use Rattle.codemod_cmd.proofs.Going.{runs_moved}

pub usage_stops : (request : Option Request) (w v : Outside) → request ≡ None → v.held ≡ w.held → AppendsFront w.taken v.taken usage_line → Stops request w v
usage_stops request w v none held front = inr (inl (usage_line, Usage, (none, held, refl), front))

-- a sample
pub sample_finishes : (request : Option Request) (w v : Outside) (count : ℕ) (line : List ℕ) → request ≡ Some (Sample count) → v.held ≡ w.held → IsSample count line → Appends w.taken v.taken line → Finishes request w v Done
sample_finishes request w v count line asks held is all = inl (line, (count, asks, held, is), all)

pub sample_stops : (request : Option Request) (w v : Outside) (count : ℕ) (line : List ℕ) → request ≡ Some (Sample count) → v.held ≡ w.held → IsSample count line → AppendsFront w.taken v.taken line → Stops request w v
sample_stops request w v count line asks held is front = inr (inl (line, Done, (count, asks, held, is), front))

pub unread : (held : Option Contents) (before now : ℕ) (script : List ℕ) (error : RowError) → HasNone held script error × Rises (faults_in error) before now → IsUnread held before now script error
unread held before now script Missing h = h
unread held before now script ReadFault h = h
unread held before now script ListFault h = h
unread held before now script WriteFault h = h
unread held before now script (Unnamed count) h = h
unread held before now script FolderDeep h = h
unread held before now script TooLong h = h
unread held before now script (NotUtf8 at) h = absurd h.0
unread held before now script (Syntax at kind) h = h
unread held before now script (Script at kind) h = h
unread held before now script Spent h = h
unread held before now script NotReadBack h = h
unread held before now script (BadNode address rule) h = h
unread held before now script (Form at kind) h = h

-- a script that is not run
module _ (request : Option Request) (w v : Outside) (command : Invocation) (error : RowError) (asks : request ≡ Some (Run command))
    (reason : IsNotRun w.held w.failed v.failed command.script error) (held : v.held ≡ w.held) where
  pub refused_finishes : (r : Result Status Stop) → IfOk r (λ status. (status ≡ NoScript) × Appends w.taken v.taken (script_line command.script error)) → IfOk r (Finishes request w v)
  refused_finishes (Ok status) h = subst (Finishes request w v) (sym h.0) (inl (script_line command.script error, (command, error, asks, reason, held, refl), h.1))
  refused_finishes (Err stop) h = tt

  pub refused_stops : (r : Result Status Stop) → OnErr r (AppendsFront w.taken v.taken (script_line command.script error)) → OnErr r (Stops request w v)
  refused_stops (Ok status) h = tt
  refused_stops (Err stop) h = inr (inl (script_line command.script error, NoScript, (command, error, asks, reason, held, refl), h))

-- a script that is run
module _ (request : Option Request) (w x v : Outside) (command : Invocation) (codemod : Codemod) (runs : RunsScript request w command codemod) (stays : Stays w x) where
  pub job_finishes : (r : Result Status Stop) → IfOk r (Completes (says_of codemod command.fuel) command x v) → IfOk r (Finishes request w v)
  job_finishes (Ok status) h = inr (
    command,
    codemod,
    runs,
    (
      h.0,
      runs_moved (says_of codemod command.fuel) command (first_places command) [] h.0 w x v stays h.1,
      subst (λ b. Appends b v.taken (told command [] h.0)) stays.taken h.2,
      h.3,
    ),
  )
  job_finishes (Err stop) h = tt

  pub job_stops : (r : Result Status Stop) → OnErr r (Halts (says_of codemod command.fuel) command x v) → OnErr r (Stops request w v)
  job_stops (Ok status) h = tt
  job_stops (Err stop) h = inr (inr (
    command,
    codemod,
    runs,
    (
      h.0,
      h.1,
      runs_moved (says_of codemod command.fuel) command (first_places command) h.1 h.0 w x v stays h.2,
      subst (λ b. AppendsFront b v.taken (told command h.1 h.0)) stays.taken h.3,
    ),
  ))
