use Rattle.std.proofs.Common.{sym, ◌∙◌}
use Rattle.tree_forms.proofs.InSlots.{second_in_slot, second_past_slots}
use Rattle.tree_forms.proofs.reading.second_in_slots.Goals as goal

pub returns-in-Some : goal.returns-in-Some
returns-in-Some c = c.second_in_slot.ensures ∙ sym (second_in_slot c.args.slots.now c.args.number c.in-Some.slot.now (sym c.in-Some.ensures))

pub returns-in-None : goal.returns-in-None
returns-in-None c = sym (second_past_slots c.args.slots.now c.args.number (sym c.in-None.ensures))
