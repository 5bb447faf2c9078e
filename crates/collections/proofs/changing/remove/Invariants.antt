use Rattle.std.proofs.Common.{take}
use Rattle.ast_paths.specs.Paths.{KeepsIds}
use Rattle.collections.specs.Changes.{Made, Removed}
use Rattle.collections.proofs.changing.remove.Given as goal

abbrev pub invariant-loop-at : goal.invariant-loop-at
invariant-loop-at l = record {
  ids : KeepsIds l.fn.arena.forest l.arena.forest;
  made : Made Removed l.fn.arena (take l.at l.list) l.arena;
}
