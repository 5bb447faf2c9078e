use Rattle.std.proofs.Common.{◌≡◌}
use Rattle.host_api.proofs.paths.hops_of.Given as goal

abbrev pub invariant-loop-value : goal.invariant-loop-value
invariant-loop-value l = l.host.arena ≡ l.fn.host.arena
