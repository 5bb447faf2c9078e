use Rattle.std.proofs.Common.{◌≤◌, length}
use Rattle.host_fields.proofs.settling.settle_items.Given as goal

abbrev pub invariant-loop-item : goal.invariant-loop-item
invariant-loop-item l = record {
  nodes : length l.fn.host.arena.forest.nodes ≤ length l.host.arena.forest.nodes;
  places : length l.fn.host.arena.forest.places ≤ length l.host.arena.forest.places;
}
