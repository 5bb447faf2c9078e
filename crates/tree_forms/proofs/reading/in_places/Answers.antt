use Rattle.std.proofs.Common.{sym, ◌∙◌}
use Rattle.tree_forms.proofs.InSlots.{first_of, first_of_none}
use Rattle.tree_forms.proofs.reading.in_places.Goals as goal

pub returns-in-Some : goal.returns-in-Some
returns-in-Some c = c.in_place.ensures ∙ sym (first_of c.args.places.now c.in-Some.place.now (sym c.in-Some.ensures))

pub returns-in-None : goal.returns-in-None
returns-in-None c = sym (first_of_none c.args.places.now (sym c.in-None.ensures))
