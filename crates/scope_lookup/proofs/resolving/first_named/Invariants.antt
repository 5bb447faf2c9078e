use Rattle.std.proofs.Common.{◌≡◌, drop}
use Rattle.scope_lookup.specs.Resolve.{first_named}
use Rattle.scope_lookup.proofs.resolving.first_named.Given as goal

abbrev pub invariant-loop-at : goal.invariant-loop-at
invariant-loop-at l = first_named l.arena l.name (drop l.at l.places) ≡ first_named l.arena l.name l.places
