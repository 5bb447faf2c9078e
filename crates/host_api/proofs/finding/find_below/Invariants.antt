use Rattle.std.proofs.Common.{◌≡◌, ◌≤◌}
use Rattle.host_api.proofs.finding.find_below.Given as goal

abbrev pub invariant-loop-turn : goal.invariant-loop-turn
invariant-loop-turn l = record {
  fuel : l.fuel ≤ l.fn.fuel;
  forest : l.host.arena ≡ l.fn.host.arena;
}
