use Rattle.std.proofs.Common.{sym, ◌∙◌}
use Rattle.tree_forms.proofs.InSlots.{second_of, second_of_none}
use Rattle.tree_forms.proofs.reading.second_in_places.Goals as goal

pub returns-in-Some : goal.returns-in-Some
returns-in-Some c = c.in_place.ensures ∙ sym (second_of c.args.places.now c.in-Some.place.now (sym c.in-Some.ensures))

pub returns-in-None : goal.returns-in-None
returns-in-None c = sym (second_of_none c.args.places.now (sym c.in-None.ensures))
