use Rattle.std.proofs.Common.{◌≡◌}
use Rattle.host_api.proofs.scopes.get_bindings.Given as goal

abbrev pub invariant-loop-binding : goal.invariant-loop-binding
invariant-loop-binding l = l.host.arena ≡ l.fn.host.arena
