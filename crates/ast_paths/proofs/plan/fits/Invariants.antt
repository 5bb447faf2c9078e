use Rattle.std.proofs.Common.{◌≤◌, ◌+◌, ◌^◌, length}
use Rattle.ast_paths.proofs.plan.fits.Given as goal

abbrev pub invariant-loop-at : goal.invariant-loop-at
invariant-loop-at l = record {
  nodes : length l.arena.forest.nodes + l.fn.room.nodes ≤ l.nodes;
  places : length l.arena.forest.places + l.fn.room.places ≤ l.places;
  few_nodes : l.nodes ≤ 2 ^ 34;
  few_places : l.places ≤ 2 ^ 34;
}
