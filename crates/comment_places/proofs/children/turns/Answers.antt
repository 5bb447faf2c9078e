use Rattle.comment_places.proofs.Turns.{turns_step, regrouped}
use Rattle.comment_places.proofs.children.turns.Goals as goal

pub loop-at-preserved : goal.loop-at-preserved
loop-at-preserved c =
    regrouped _ _ _ _ _ _ _ _ c.in_ok-add_at.ensures c.in_ok-add_at-2.ensures (turns_step c.args.characters.now c.args.holes.now c.loop-at.at) c.loop-at.invariant
