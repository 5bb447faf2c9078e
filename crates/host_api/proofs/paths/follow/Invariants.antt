use Rattle.std.proofs.Common.{◌≡◌}
use Rattle.host_api.proofs.paths.follow.Given as goal

abbrev pub invariant-loop-hop : goal.invariant-loop-hop
invariant-loop-hop l = l.host.arena ≡ l.fn.host.arena
