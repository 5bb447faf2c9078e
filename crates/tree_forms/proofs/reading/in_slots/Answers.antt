use Rattle.std.proofs.Common.{sym, ◌∙◌}
use Rattle.tree_forms.proofs.InSlots.{in_slot, past_slots}
use Rattle.tree_forms.proofs.reading.in_slots.Goals as goal

pub returns-in-Some : goal.returns-in-Some
returns-in-Some c = c.in_slot.ensures ∙ sym (in_slot c.args.slots.now c.args.number c.in-Some.slot.now (sym c.in-Some.ensures))

pub returns-in-None : goal.returns-in-None
returns-in-None c = sym (past_slots c.args.slots.now c.args.number (sym c.in-None.ensures))
