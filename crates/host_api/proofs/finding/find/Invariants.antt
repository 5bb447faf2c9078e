use Rattle.std.proofs.Common.{◌≡◌, ◌≤◌}
use Rattle.host_api.proofs.finding.find.Given as goal

abbrev pub invariant-loop-number : goal.invariant-loop-number
invariant-loop-number l = record {
  fuel : l.fuel ≤ l.fn.fuel;
  forest : l.host.arena ≡ l.fn.host.arena;
}
