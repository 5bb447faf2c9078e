use Rattle.std.proofs.Common.{◌≡◌, take}
use Rattle.tree_core.proofs.copying.copy_comments.Given as goal

abbrev pub invariant-loop-comment : goal.invariant-loop-comment
invariant-loop-comment l = l.copied ≡ take l.comment-index l.comments
