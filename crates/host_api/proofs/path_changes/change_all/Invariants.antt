use Rattle.std.proofs.Common.{◌≤◌, length}
use Rattle.host_api.proofs.path_changes.change_all.Given as goal

abbrev pub invariant-loop-number : goal.invariant-loop-number
invariant-loop-number l = record {
  fuel : l.fuel ≤ l.fn.fuel;
  nodes : length l.fn.host.arena.forest.nodes ≤ length l.host.arena.forest.nodes;
  places : length l.fn.host.arena.forest.places ≤ length l.host.arena.forest.places;
}
