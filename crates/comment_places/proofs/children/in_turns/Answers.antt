use Rattle.comment_places.proofs.Turns.{in_turns_by}
use Rattle.comment_places.proofs.children.in_turns.Goals as goal

pub returns : goal.returns
returns c = rw (in_turns_by c.args.found.now c.character_count-count.result c.character_count-count.ensures.count) c.turns.ensures
