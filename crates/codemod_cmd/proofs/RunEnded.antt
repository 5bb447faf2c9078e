-- How the run of a script over a source ends, of what is told of what it left.
use Rattle.std.proofs.Common.{ℕ, List, Ok, Err}
use Rattle.std.specs.Prelude.{Result, IfOk}
use Rattle.codemod_cmd.specs.RunEndings.{Left, IsRun, EndsSo, RunEnds}
use Rattle.codemod_cmd.specs.declared.run_ending.RunEnding.{RunEnding}

pub run_ends : {E : Type 0} (fuel : ℕ) (s : List ℕ) (left : Left) (r : Result RunEnding E) → IsRun fuel s left → IfOk r (EndsSo left) → IfOk r (RunEnds fuel s)
run_ends fuel s left (Ok ending) run ends = (left, run, ends)
run_ends fuel s left (Err e) run ends = tt
