-- What a run reads, writes and leaves.
use Rattle.std.specs.Prelude.{◌≡◌, ◌⊎◌, ℕ, ◌<◌, ◌≤◌, Bool, false, if◌then◌else◌, ◌&&◌, List, [], ◌∷◌, ◌++◌, map, length, Option, Some, None, Result, Ok, Err, codes, string_bytes}
use Rattle.std.specs.Str.{is_utf8}
use Rattle.std.specs.FinMap.{get}
use Rattle.std.specs.Io.KnownBytes.{Appends}
use Rattle.std.specs.declared.string.String.{String}
use Rattle.std.specs.declared.alloc.Global.{Global}
use Rattle.cm_store.specs.Contents.{Contents}
use Rattle.cm_store.specs.Writing.{AppendsFront}
use Rattle.cm_text.specs.declared.source.TheConstants.{MAX_LENGTH}
use Rattle.command_words.specs.Requests.{request_of}
use Rattle.command_words.specs.declared.invocation.Invocation.{Invocation}
use Rattle.command_words.specs.declared.invocation.Request.{Request}
use Rattle.command_words.specs.declared.invocation.Request.TheVariants.{Run, Sample}
use Rattle.run_report.specs.Texts.{script_line, summary_lines, sample_lines}
use Rattle.run_report.specs.Counting.{no_counts, counted}
use Rattle.run_report.specs.declared.counts.Counts.{Counts}
use Rattle.run_report.specs.declared.answer.RowAnswer.{RowAnswer}
use Rattle.run_report.specs.declared.answer.RowError.{RowError}
use Rattle.run_report.specs.declared.answer.RowError.TheVariants.{NotUtf8, Syntax, Form}
use Rattle.codemod_cmd.specs.Rows.{Row, answer_of, HasBytes, HasNone, IsRow, leaves, after, faults_in, row_faults, faults_of, Rises, shown, shown_all, counted_all, has_error}
use Rattle.codemod_cmd.specs.Folders.{Place, places, named, Goes}
use Rattle.sample_gen.specs.Sample.{sample}
use Rattle.tree_core.specs.declared.span.Parsed.{Parsed}
use Rattle.codemod_cmd.specs.Script.{Codemod, special, general, renames, IsNoScript, IsOf}
use Rattle.codemod_cmd.specs.FileAnswer.{FileAnswer, IsSource, FirstBad}
use Rattle.text_guard.specs.Readings.{IsParsed}
use Rattle.codemod_cmd.specs.RunAnswer.{RunAnswer}
use Rattle.codemod_cmd.specs.declared.reading.Unread.{Unread}
use Rattle.codemod_cmd.specs.declared.reading.Unread.TheVariants.{Refused, NoMemory as NotRead}
use Rattle.codemod_cmd.specs.declared.status.Status.{Status}
use Rattle.codemod_cmd.specs.declared.status.Status.TheVariants.{Done, HadErrors, Usage, NoScript, NoMemory, OutputFault}
use Rattle.codemod_cmd.specs.declared.stop.Stop.{Stop}
use Rattle.codemod_cmd.specs.declared.stop.Stop.TheVariants.{NoMemory as OutOfMemory, OutputFault as OutputFails}

-- the outside at one moment: what the store holds and how often it failed, and the bytes that the sink took. Contents are there where store and sink tell them
pub record Outside : Type 0 where
  pub held : Option Contents
  pub failed : ℕ
  pub taken : Option (List ℕ)

abbrev pub outside : Option Contents → ℕ → Option (List ℕ) → Outside
outside held failed taken = record { held = held; failed = failed; taken = taken }

-- nothing is changed or written
pub record Stays (w v : Outside) : Type 0 where
  pub held : v.held ≡ w.held
  pub failed : w.failed ≤ v.failed
  pub taken : v.taken ≡ w.taken

-- one row of a file, but for what is written of it
pub record Passes (says : List ℕ → RowAnswer → List ℕ → Type 0) (dry : Bool) (name : List ℕ) (row : Row) (w v : Outside) : Type 0 where
  pub is : IsRow says dry w.held name row
  pub held : v.held ≡ leaves dry w.held name row
  pub failed : Rises (row_faults row) w.failed v.failed

-- how the row of a file ends
abbrev pub RowEnds : (List ℕ → RowAnswer → List ℕ → Type 0) → Bool → Bool → List ℕ → Outside → Outside → Result RowAnswer Stop → Type 0
RowEnds says dry print name w v (Ok answer) = (row : Row) × (answer_of row ≡ answer) × Passes says dry name row w v × Appends w.taken v.taken (shown print name row)
RowEnds says dry print name w v (Err OutputFails) = (row : Row) × Passes says dry name row w v × AppendsFront w.taken v.taken (shown print name row)
RowEnds says dry print name w v (Err OutOfMemory) = Stays w v

-- one row of a file that is written and counted
abbrev pub FileTells : (List ℕ → RowAnswer → List ℕ → Type 0) → Invocation → List ℕ → Counts → Counts → Outside → Outside → Type 0
FileTells says command name c d w v =
    (row : Row) × Passes says command.dry name row w v × Appends w.taken v.taken (shown command.print name row) × (d ≡ counted c (answer_of row))

-- one row of a file at which a run stops
abbrev pub FileBreaks : (List ℕ → RowAnswer → List ℕ → Type 0) → Invocation → List ℕ → Outside → Outside → Type 0
FileBreaks says command name w v = Stays w v ⊎ ((row : Row) × Passes says command.dry name row w v × AppendsFront w.taken v.taken (shown command.print name row))

-- the rows of places, as far as those that are still to come, but for what is written of them
pub record Runs (says : List ℕ → RowAnswer → List ℕ → Type 0) (command : Invocation) (ps rest : List Place) (rows : List (List ℕ × Row)) (w v : Outside) : Type 0 where
  pub goes : Goes says command ps w.held rows rest
  pub held : v.held ≡ after command.dry w.held rows
  pub failed : Rises (faults_of rows) w.failed v.failed

-- they are written and counted
abbrev pub Tells : (List ℕ → RowAnswer → List ℕ → Type 0) → Invocation → List Place → List Place → Counts → Counts → Outside → Outside → Type 0
Tells says command ps rest c d w v =
    (rows : List (List ℕ × Row)) × Runs says command ps rest rows w v × Appends w.taken v.taken (shown_all command.print rows) × (d ≡ counted_all c rows)

-- a front of them is written
abbrev pub Breaks : (List ℕ → RowAnswer → List ℕ → Type 0) → Invocation → List Place → Outside → Outside → Type 0
Breaks says command ps w v =
    (rows : List (List ℕ × Row)) × (rest : List Place) × Runs says command ps rest rows w v × AppendsFront w.taken v.taken (shown_all command.print rows)

-- the places of the words
abbrev pub first_places : Invocation → List Place
first_places command = places 0 (named command.files)

-- the rows and, where none is still to come, the summary
abbrev pub told : Invocation → List Place → List (List ℕ × Row) → List ℕ
told command [] rows = shown_all command.print rows ++ summary_lines (counted_all no_counts rows)
told command (p ∷ rest) rows = shown_all command.print rows

-- some row is an error, and the words ask to be told so
abbrev pub status_of : Invocation → List (List ℕ × Row) → Status
status_of command rows = if command.fail_on_error && has_error rows then HadErrors else Done

-- all rows and the summary
abbrev pub Completes : (List ℕ → RowAnswer → List ℕ → Type 0) → Invocation → Outside → Outside → Status → Type 0
Completes says command w v status =
    (rows : List (List ℕ × Row)) × Runs says command (first_places command) [] rows w v × Appends w.taken v.taken (told command [] rows) × (status ≡ status_of command rows)

-- some rows, and a front of what is written of them
abbrev pub Halts : (List ℕ → RowAnswer → List ℕ → Type 0) → Invocation → Outside → Outside → Type 0
Halts says command w v = (rows : List (List ℕ × Row)) × (rest : List Place) × Runs says command (first_places command) rest rows w v × AppendsFront w.taken v.taken (told command rest rows)

-- what the words ask for, where they are those of the command
abbrev pub asked : List (String Global) → Option Request
asked words = request_of (map string_bytes words)

unfoldable pub usage_line : List ℕ
usage_line = codes
    "usage: codemod -t SCRIPT [-d] [-p] [--fuel N] [--extensions LIST] [--fail-on-error] [--tab-width N] [--use-tabs] [--quote Q] [--trailing-comma] [--no-curly-spacing] [--arrow-parens] FILE...\n"

-- the script of this name is this one
abbrev pub Asks : Option Contents → List ℕ → Codemod → Type 0
Asks held script codemod = (bytes : List ℕ) × HasBytes held script bytes × IsSource bytes × IsOf codemod bytes

-- what a run of the codemod, with so much fuel for a file, says of the bytes of a file
abbrev pub says_of : Codemod → ℕ → List ℕ → RowAnswer → List ℕ → Type 0
says_of (special change) fuel = FileAnswer change
says_of (general script) fuel = RunAnswer fuel

-- the script of this name cannot be read, for this reason. A failed read is one that the store counted
abbrev pub IsUnread : Option Contents → ℕ → ℕ → List ℕ → RowError → Type 0
IsUnread held before now script (NotUtf8 at) = (bytes : List ℕ) × HasBytes held script bytes × FirstBad bytes at
IsUnread held before now script error = HasNone held script error × Rises (faults_in error) before now

-- the source is no script: it has no tree, or breaks a rule of scripts
abbrev pub IsRefused : List ℕ → RowError → Type 0
IsRefused s (Syntax at kind) = at ≤ length s
IsRefused s (Form at kind) = (p : Parsed) × IsParsed s p
IsRefused s _ = ⊥

-- what comes of reading the script of this name as a source
abbrev pub Sourced : Option Contents → ℕ → ℕ → List ℕ → Result (List ℕ) Unread → Type 0
Sourced held before now script (Ok source) = HasBytes held script source × IsSource source
Sourced held before now script (Err (Refused error)) = IsUnread held before now script error
Sourced held before now script (Err NotRead) = Unit {0}

-- where a source is refused as a script, it is none
abbrev pub RefusedScript : {A : Type 0} → List ℕ → Result A Unread → Type 0
RefusedScript s (Err (Refused error)) = IsRefused s error
RefusedScript s (Err NotRead) = Unit {0}
RefusedScript s (Ok codemod) = Unit {0}

-- the script of this name is not run, for this reason
abbrev pub IsNotRun : Option Contents → ℕ → ℕ → List ℕ → RowError → Type 0
IsNotRun held before now script error =
    IsUnread held before now script error ⊎ ((bytes : List ℕ) × HasBytes held script bytes × IsSource bytes × IsNoScript bytes × IsRefused bytes error)

-- what is written of a sample: the lengths of its source and of the text that a renaming makes of it
abbrev pub IsSample : ℕ → List ℕ → Type 0
IsSample count line =
    (answer : RowAnswer) × (text : List ℕ) × FileAnswer (renames (codes "a") (codes "b")) (sample count) answer text × (line ≡ sample_lines count (length (sample count)) answer text)

-- a run that writes this line, no row and no file
abbrev pub WritesLine : Option Request → Outside → Outside → List ℕ → Status → Type 0
WritesLine request w v line Usage = (request ≡ None) × (v.held ≡ w.held) × (line ≡ usage_line)
WritesLine request w v line NoScript =
    (command : Invocation) × (error : RowError) × (request ≡ Some (Run command)) × IsNotRun w.held w.failed v.failed command.script error × (v.held ≡ w.held) × (line ≡ script_line command.script error)
WritesLine request w v line Done = (count : ℕ) × (request ≡ Some (Sample count)) × (v.held ≡ w.held) × IsSample count line
WritesLine request w v line _ = ⊥

-- a run of this script is asked for
abbrev pub RunsScript : Option Request → Outside → Invocation → Codemod → Type 0
RunsScript request w command codemod = (request ≡ Some (Run command)) × Asks w.held command.script codemod

-- a run that wrote all of its text
abbrev pub Finishes : Option Request → Outside → Outside → Status → Type 0
Finishes request w v status =
    ((line : List ℕ) × WritesLine request w v line status × Appends w.taken v.taken line)
    ⊎ ((command : Invocation) × (codemod : Codemod) × RunsScript request w command codemod × Completes (says_of codemod command.fuel) command w v status)

-- a run that stopped before: it did nothing, or wrote a front of its line, or the rows of some names and a front of what is written of them
abbrev pub Stops : Option Request → Outside → Outside → Type 0
Stops request w v =
    Stays w v
    ⊎ ((line : List ℕ) × (status : Status) × WritesLine request w v line status × AppendsFront w.taken v.taken line)
    ⊎ ((command : Invocation) × (codemod : Codemod) × RunsScript request w command codemod × Halts (says_of codemod command.fuel) command w v)

-- how a run ends
abbrev pub Ends : Option Request → Outside → Outside → Status → Type 0
Ends request w v NoMemory = Stops request w v
Ends request w v OutputFault = Stops request w v
Ends request w v status = Finishes request w v status

-- the run ends with this status, unless it stopped before
abbrev pub EndsBy : Status → Status → Type 0
EndsBy status result = (result ≡ status) ⊎ (result ≡ NoMemory) ⊎ (result ≡ OutputFault)

-- the store tells that the script of this name cannot be run: there is none, it is too long, or no UTF-8
abbrev pub LacksScript : Option Contents → List ℕ → Type 0
LacksScript None script = ⊥
LacksScript (Some c) script =
    (get c.files script ≡ None) ⊎ ((bytes : List ℕ) × (get c.files script ≡ Some bytes) × ((MAX_LENGTH < length bytes) ⊎ (is_utf8 bytes ≡ false)))
