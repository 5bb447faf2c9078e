use Rattle.std.proofs.Common.{arith, length}
use Rattle.collections.specs.Above.{nearest}
use Rattle.collections.specs.Matches.{fits_type}
use Rattle.collections.proofs.Climbs.{climb_over}
use Rattle.collections.proofs.ancestors.nearest.Goals as goal

pub returns-clause-found : goal.returns-clause-found
returns-clause-found c =
    let fits = fits_type c.args.arena.now c.args.pattern.now c.args.of in
    climb_over (length c.args.arena.now.forest.nodes) c.loop-turn._turn c.args.arena.now.forest fits c.loop-turn.at (nearest c.args.arena.now.forest fits c.args.path)
    (omega arith) c.loop-turn.invariant.found
