use Rattle.std.proofs.Common.{◌≤◌, ◌^◌, ◌+◌}
use Rattle.node_arena.proofs.arena.Arena.room_for.Given as goal

abbrev pub invariant-loop-at : goal.invariant-loop-at
invariant-loop-at l = record {
  nodes : l.most_nodes ≤ 2 ^ 22;
  places : l.most_places ≤ 2 ^ 26;
  room : l.room ≤ l.most_nodes + l.most_places;
}
