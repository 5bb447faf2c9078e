-- The rows of runs of scripts other than the two forms.
use Rattle.std.proofs.Common.{◌≡◌, ◌<◌, ℕ, List, inl, inr}
use Rattle.run_report.specs.declared.answer.RowAnswer.{RowAnswer}
use Rattle.run_report.specs.declared.answer.RowAnswer.TheVariants.{Ok, Unmodified, Skipped, Error}
use Rattle.run_report.specs.declared.answer.RowError.{RowError}
use Rattle.run_report.specs.declared.answer.RowError.TheVariants.{Missing, ReadFault, ListFault, WriteFault, Unnamed, FolderDeep, TooLong, NotUtf8, Syntax, Script, Spent, BadNode, NotReadBack, Form}
use Rattle.script_eval.specs.declared.running.Outcome.TheVariants as ended
use Rattle.tree_core.specs.View.{syntax}
use Rattle.tree_core.specs.declared.tree.Tree.{Tree}
use Rattle.codemod_cmd.specs.FileAnswer.{IsSource}
use Rattle.codemod_cmd.specs.RunAnswer.{RunAnswer}
use Rattle.codemod_cmd.specs.RunEndings.{Left, EndsSo, IsJudged, IsPatched, RunEnds}
use Rattle.codemod_cmd.specs.declared.run_ending.RunEnding.{RunEnding}
use Rattle.codemod_cmd.specs.declared.run_ending.RunEnding.TheVariants.{Unchanged, Changed, Nothing, Refused}

-- a changed tree in the root place
pub judged : (left : Left) (e : RunEnding) → left.ran.outcome ≡ ended.Printed → 0 < left.prints → IsJudged left.arena e → EndsSo left e
judged left Unchanged is some h = absurd h
judged left (Changed tree) is some h = ((is, some), h)
judged left Nothing is some h = absurd h
judged left (Refused Missing) is some h = absurd h
judged left (Refused ReadFault) is some h = absurd h
judged left (Refused ListFault) is some h = absurd h
judged left (Refused WriteFault) is some h = absurd h
judged left (Refused (Unnamed count)) is some h = absurd h
judged left (Refused FolderDeep) is some h = absurd h
judged left (Refused TooLong) is some h = absurd h
judged left (Refused (NotUtf8 at)) is some h = absurd h
judged left (Refused (Syntax at kind)) is some h = absurd h
judged left (Refused (Script at kind)) is some h = absurd h
judged left (Refused Spent) is some h = absurd h
judged left (Refused (BadNode address rule)) is some h = ((is, some), h)
judged left (Refused NotReadBack) is some h = absurd h
judged left (Refused (Form at kind)) is some h = absurd h

-- a run that answered the source, or changed no node
pub unchanged_told : (fuel : ℕ) (s out : List ℕ) → IsSource s → RunEnds fuel s Unchanged → out ≡ s → RunAnswer fuel s Unmodified out
unchanged_told fuel s out is h same = (is, (h.0, h.1, inl h.2), same)

-- a run that gave no text
pub refused_told : (fuel : ℕ) (s out : List ℕ) (error : RowError) → IsSource s → RunEnds fuel s (Refused error) → RunAnswer fuel s (Error error) out
refused_told fuel s out Missing is h = (is, h)
refused_told fuel s out ReadFault is h = (is, h)
refused_told fuel s out ListFault is h = (is, h)
refused_told fuel s out WriteFault is h = (is, h)
refused_told fuel s out (Unnamed count) is h = (is, h)
refused_told fuel s out FolderDeep is h = (is, h)
refused_told fuel s out TooLong is h = absurd h.2
refused_told fuel s out (NotUtf8 at) is h = absurd h.2
refused_told fuel s out (Syntax at kind) is h = absurd h.2
refused_told fuel s out (Script at kind) is h = (is, h)
refused_told fuel s out Spent is h = (is, h)
refused_told fuel s out (BadNode address rule) is h = (is, h)
refused_told fuel s out NotReadBack is h = (is, h)
refused_told fuel s out (Form at kind) is h = (is, h)

-- a run that made a changed tree
pub patched_told : (fuel : ℕ) (s out : List ℕ) (tree : Tree) (answer : RowAnswer) → IsSource s → RunEnds fuel s (Changed tree) → IsPatched s (syntax tree) answer out → RunAnswer fuel s answer out
patched_told fuel s out tree Ok is h p = (is, (h.0, h.1, (syntax tree, h.2, p.0)), p.1)
patched_told fuel s out tree Unmodified is h p = (is, (h.0, h.1, inr (syntax tree, h.2)), p)
patched_told fuel s out tree Skipped is h p = absurd p
patched_told fuel s out tree (Error Missing) is h p = absurd p
patched_told fuel s out tree (Error ReadFault) is h p = absurd p
patched_told fuel s out tree (Error ListFault) is h p = absurd p
patched_told fuel s out tree (Error WriteFault) is h p = absurd p
patched_told fuel s out tree (Error (Unnamed count)) is h p = absurd p
patched_told fuel s out tree (Error FolderDeep) is h p = absurd p
patched_told fuel s out tree (Error TooLong) is h p = absurd p
patched_told fuel s out tree (Error (NotUtf8 at)) is h p = absurd p
patched_told fuel s out tree (Error (Syntax at kind)) is h p = absurd p
patched_told fuel s out tree (Error (Script at kind)) is h p = absurd p
patched_told fuel s out tree (Error Spent) is h p = absurd p
patched_told fuel s out tree (Error (BadNode address rule)) is h p = absurd p
patched_told fuel s out tree (Error NotReadBack) is h p = (is, (h.0, h.1, (h.2.0, (syntax tree, h.2.1))))
patched_told fuel s out tree (Error (Form at kind)) is h p = absurd p
