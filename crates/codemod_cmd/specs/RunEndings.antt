-- How the run of a script other than the two forms over a source ends, and what comes of the tree that it leaves.
use Rattle.std.specs.Prelude.{◌≡◌, ◌≢◌, ◌<◌, ◌≤◌, ◌⊎◌, ℕ, List, [], None}
use Rattle.arena_trees.specs.declared.unloading.TheConstants.{MAX_DEPTH}
use Rattle.node_arena.specs.Forest.{node_at}
use Rattle.node_arena.specs.Store.{Store}
use Rattle.run_report.specs.declared.answer.RowAnswer.{RowAnswer}
use Rattle.run_report.specs.declared.answer.RowAnswer.TheVariants.{Ok, Unmodified, Error}
use Rattle.run_report.specs.declared.answer.RowError.{RowError}
use Rattle.run_report.specs.declared.answer.RowError.TheVariants.{Script, Spent, BadNode, NotReadBack}
use Rattle.script_eval.specs.declared.running.Outcome.TheVariants as ended
use Rattle.script_eval.specs.declared.running.Ran.{Ran}
use Rattle.text_guard.specs.Readings.{IsParsed, ReadsBack}
use Rattle.tree_check.specs.declared.rule.Rule.{Rule}
use Rattle.tree_check.specs.declared.rule.Rule.TheVariants.{Depth, Missing}
use Rattle.tree_core.specs.Height.{height}
use Rattle.tree_core.specs.Syntax.{Syntax}
use Rattle.tree_core.specs.View.{syntax}
use Rattle.tree_core.specs.declared.span.Parsed.{Parsed}
use Rattle.codemod_cmd.specs.declared.run_ending.RunEnding.{RunEnding}
use Rattle.codemod_cmd.specs.declared.run_ending.RunEnding.TheVariants.{Unchanged, Changed, Nothing, Refused}

-- what a run left: how it ended, in how many of its prints something was new, and the arena
pub record Left : Type 0 where
  pub ran : Ran
  pub prints : ℕ
  pub arena : Store

abbrev pub left_of : Ran → ℕ → Store → Left
left_of ran prints arena = record { ran = ran; prints = prints; arena = arena }

-- the source has a tree, and the run over it took no more than so much fuel
pub record IsRun (fuel : ℕ) (s : List ℕ) (left : Left) : Type 0 where
  pub parsed : Parsed
  pub tree : IsParsed s parsed
  pub unspent : left.ran.left ≤ fuel

-- the run answered the source's text, or printed with no node changed
abbrev pub IsUnchanged : Left → Type 0
IsUnchanged left = (left.ran.outcome ≡ ended.Same) ⊎ ((left.ran.outcome ≡ ended.Printed) × (left.prints ≡ 0))

-- the run printed, with something changed
abbrev pub IsChanged : Left → Type 0
IsChanged left = (left.ran.outcome ≡ ended.Printed) × (0 < left.prints)

-- the tree is what `unload` answered of the root place of this arena
pub record IsFinal (arena : Store) (t : Syntax) : Type 0 where
  pub stands : node_at arena.forest 0 ≢ None
  pub low : height t ≤ MAX_DEPTH

-- nothing stands in the root place, or a node stands too deep, or the check refused what `unload` answered
abbrev pub IsBad : Store → List ℕ → Rule → Type 0
IsBad arena address rule =
    ((node_at arena.forest 0 ≡ None) × (address ≡ []) × (rule ≡ Missing))
    ⊎ ((node_at arena.forest 0 ≢ None) × (rule ≡ Depth))
    ⊎ ((t : Syntax) × IsFinal arena t)

-- what comes of the tree in the root place
abbrev pub IsJudged : Store → RunEnding → Type 0
IsJudged arena (Changed tree) = IsFinal arena (syntax tree)
IsJudged arena (Refused (BadNode address rule)) = IsBad arena address rule
IsJudged arena _ = ⊥

-- the run gave no text, for this reason
abbrev pub Fails : Left → RowError → Type 0
Fails left (Script at kind) = left.ran.outcome ≡ ended.Fault (record { at = at; kind = kind })
Fails left Spent = left.ran.outcome ≡ ended.Spent
Fails left (BadNode address rule) = IsChanged left × IsBad left.arena address rule
Fails left NotReadBack = IsChanged left × ((t : Syntax) × IsFinal left.arena t)
Fails left _ = ⊥

abbrev pub EndsSo : Left → RunEnding → Type 0
EndsSo left Unchanged = IsUnchanged left
EndsSo left (Changed tree) = IsChanged left × IsFinal left.arena (syntax tree)
EndsSo left Nothing = left.ran.outcome ≡ ended.Nothing
EndsSo left (Refused error) = Fails left error

-- some run over the source's tree, with so much fuel, ended so
abbrev pub RunEnds : ℕ → List ℕ → RunEnding → Type 0
RunEnds fuel s ending = (left : Left) × IsRun fuel s left × EndsSo left ending

-- the row of a text that was made of the tree
abbrev pub IsGuarded : List ℕ → Syntax → RowAnswer → List ℕ → Type 0
IsGuarded text t Ok out = (out ≡ text) × ReadsBack out t
IsGuarded text t (Error NotReadBack) out = Unit {0}
IsGuarded text t _ out = ⊥

-- the row of a changed tree: a text other than the source's reads back
abbrev pub IsPatched : List ℕ → Syntax → RowAnswer → List ℕ → Type 0
IsPatched s t Ok out = ReadsBack out t × (out ≢ s)
IsPatched s t Unmodified out = out ≡ s
IsPatched s t (Error NotReadBack) out = Unit {0}
IsPatched s t _ out = ⊥
