use Rattle.std.proofs.Common.{take}
use Rattle.ast_paths.specs.Paths.{KeepsFilled, KeepsIds}
use Rattle.collections.specs.Changes.{Inserted, Made}
use Rattle.collections.proofs.changing.insert_before.Given as goal

abbrev pub invariant-loop-at : goal.invariant-loop-at
invariant-loop-at l = record {
  ids : KeepsIds l.fn.arena.forest l.arena.forest;
  filled : KeepsFilled l.fn.arena.forest l.arena.forest;
  made : Made Inserted l.fn.arena (take l.at l.list) l.arena;
}
