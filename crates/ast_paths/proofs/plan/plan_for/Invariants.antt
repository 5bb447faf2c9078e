use Rattle.std.proofs.Common.{◌<◌, length, All}
use Rattle.ast_paths.proofs.plan.plan_for.Given as goal

abbrev pub invariant-loop-at : goal.invariant-loop-at
invariant-loop-at l = All (λ j. j < length l.arena.forest.nodes) l.copied.items
