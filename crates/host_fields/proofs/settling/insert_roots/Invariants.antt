use Rattle.std.proofs.Common.{◌≤◌, length}
use Rattle.host_fields.proofs.settling.insert_roots.Given as goal

abbrev pub invariant-loop-root : goal.invariant-loop-root
invariant-loop-root l = record {
  nodes : length l.fn.host.arena.forest.nodes ≤ length l.host.arena.forest.nodes;
  places : length l.fn.host.arena.forest.places ≤ length l.host.arena.forest.places;
}
