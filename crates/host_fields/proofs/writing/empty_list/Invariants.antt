use Rattle.std.proofs.Common.{◌≤◌, length}
use Rattle.host_fields.proofs.writing.empty_list.Given as goal

abbrev pub invariant-loop-place : goal.invariant-loop-place
invariant-loop-place l = record {
  nodes : length l.fn.host.arena.forest.nodes ≤ length l.host.arena.forest.nodes;
  places : length l.fn.host.arena.forest.places ≤ length l.host.arena.forest.places;
}
