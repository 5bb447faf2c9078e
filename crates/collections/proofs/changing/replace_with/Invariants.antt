use Rattle.std.proofs.Common.{◌<◌, length, take}
use Rattle.ast_paths.specs.Paths.{KeepsFilled, KeepsIds}
use Rattle.collections.specs.Changes.{Made, Replaced}
use Rattle.collections.proofs.changing.replace_with.Given as goal

abbrev pub invariant-loop-at : goal.invariant-loop-at
invariant-loop-at l = record {
  ids : KeepsIds l.fn.arena.forest l.arena.forest;
  filled : 0 < length l.nodes → KeepsFilled l.fn.arena.forest l.arena.forest;
  made : Made (Replaced (length l.nodes)) l.fn.arena (take l.at l.list) l.arena;
}
