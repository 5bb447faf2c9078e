use Rattle.js_source.proofs.comment_places.+attaching.Given as goal

abbrev pub decreases-attach : goal.decreases-attach
decreases-attach l = l.depth
