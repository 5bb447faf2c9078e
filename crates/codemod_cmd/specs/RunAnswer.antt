-- What the run of a script other than the two forms says of a file with these bytes.
use Rattle.std.specs.Prelude.{◌≡◌, ◌≢◌, ◌<◌, ◌≤◌, ◌⊎◌, ℕ, List, length}
use Rattle.cm_text.specs.declared.source.TheConstants.{MAX_LENGTH}
use Rattle.run_report.specs.declared.answer.RowAnswer.{RowAnswer}
use Rattle.run_report.specs.declared.answer.RowAnswer.TheVariants.{Ok, Unmodified, Skipped, Error}
use Rattle.run_report.specs.declared.answer.RowError.TheVariants.{TooLong, NotUtf8, Syntax}
use Rattle.script_eval.specs.declared.running.Outcome.TheVariants as ended
use Rattle.text_guard.specs.Readings.{ReadsBack}
use Rattle.tree_core.specs.Syntax.{Syntax as Tree}
use Rattle.codemod_cmd.specs.FileAnswer.{IsSource, FirstBad}
use Rattle.codemod_cmd.specs.RunEndings.{Left, IsRun, IsUnchanged, IsChanged, IsFinal, Fails}

-- the run printed this changed tree, which `unload` answered of the arena that the run left, and which passed the check
abbrev pub Prints : Left → Tree → Type 0
Prints left t = IsChanged left × IsFinal left.arena t

-- the run gave no other text: it answered the source's, or printed with no node changed, or its changed tree has the source's text
abbrev pub GivesSource : Left → Type 0
GivesSource left = IsUnchanged left ⊎ ((t : Tree) × Prints left t)

-- the row of the bytes, and the text beside it
abbrev pub RunAnswer : ℕ → List ℕ → RowAnswer → List ℕ → Type 0
RunAnswer fuel s Ok out = IsSource s × ((left : Left) × IsRun fuel s left × ((t : Tree) × Prints left t × ReadsBack out t)) × (out ≢ s)
RunAnswer fuel s Unmodified out = IsSource s × ((left : Left) × IsRun fuel s left × GivesSource left) × (out ≡ s)
RunAnswer fuel s Skipped out = IsSource s × ((left : Left) × IsRun fuel s left × (left.ran.outcome ≡ ended.Nothing))
RunAnswer fuel s (Error TooLong) out = MAX_LENGTH < length s
RunAnswer fuel s (Error (NotUtf8 at)) out = FirstBad s at
RunAnswer fuel s (Error (Syntax at kind)) out = IsSource s × (at ≤ length s)
RunAnswer fuel s (Error error) out = IsSource s × ((left : Left) × IsRun fuel s left × Fails left error)
