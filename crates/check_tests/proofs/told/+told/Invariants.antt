use Rattle.std.proofs.Common.{◌+◌, ◌*◌}
use Rattle.check_tests.proofs.told.+told.Given as goal

abbrev pub decreases-node : goal.decreases-node
decreases-node l = 4 * l.depth

abbrev pub decreases-place : goal.decreases-place
decreases-place l = 4 * l.depth + 1

abbrev pub decreases-list : goal.decreases-list
decreases-list l = 4 * l.depth + 2

abbrev pub decreases-slot : goal.decreases-slot
decreases-slot l = 4 * l.depth + 3
