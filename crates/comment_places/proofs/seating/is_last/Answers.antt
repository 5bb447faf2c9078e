use Rattle.std.proofs.Common.{◌+◌, sym, ap, ◌∙◌}
use Rattle.comment_places.proofs.Turns.{is_missing, nothing_at}
use Rattle.comment_places.proofs.seating.is_last.Goals as goal

pub returns-in-Some : goal.returns-in-Some
returns-in-Some c = sym (nothing_at c.args.children.now (c.args.at + 1) ∙ ap is_missing (sym c.in-Some.ensures))

pub returns-in-None : goal.returns-in-None
returns-in-None c = sym (nothing_at c.args.children.now (c.args.at + 1) ∙ ap is_missing (sym c.in-None.ensures))
