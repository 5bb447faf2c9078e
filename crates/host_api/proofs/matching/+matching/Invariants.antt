use Rattle.std.proofs.Common.{◌≡◌, ◌+◌, ◌*◌}
use Rattle.host_api.proofs.matching.+matching.Given as goal

abbrev pub decreases-try_fields : goal.decreases-try_fields
decreases-try_fields l = 3 * l.left + 1

abbrev pub decreases-try_places : goal.decreases-try_places
decreases-try_places l = 3 * l.left + 1

abbrev pub decreases-try_list : goal.decreases-try_list
decreases-try_list l = 3 * l.left + 2

abbrev pub decreases-try_read : goal.decreases-try_read
decreases-try_read l = 3 * l.left

abbrev pub invariant-try_fields-loop-number : goal.invariant-try_fields-loop-number
invariant-try_fields-loop-number l = l.host.arena ≡ l.fn.host.arena

abbrev pub invariant-try_places-loop-number : goal.invariant-try_places-loop-number
invariant-try_places-loop-number l = l.host.arena ≡ l.fn.host.arena
