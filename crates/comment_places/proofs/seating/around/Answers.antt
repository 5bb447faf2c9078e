use Rattle.std.proofs.Common.{length, refl}
use Rattle.comment_places.specs.Children.{kid_view}
use Rattle.comment_places.proofs.Gaps.{around_is}
use Rattle.comment_places.proofs.seating.around.Goals as goal

pub returns-clause-view : goal.returns-clause-view
returns-clause-view c =
    around_is c.args.variant c.args.path.now (length c.args.path.now) c.args.sides c.args.turn (kid_view c.args.child) c.before-2.result c.behind.result refl c.before-2.ensures.gap c.behind.ensures.gap
