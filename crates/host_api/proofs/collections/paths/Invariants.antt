use Rattle.std.proofs.Common.{◌≡◌}
use Rattle.host_api.proofs.collections.paths.Given as goal

abbrev pub invariant-loop-number : goal.invariant-loop-number
invariant-loop-number l = l.host.arena ≡ l.fn.host.arena
