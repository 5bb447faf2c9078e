use Rattle.std.proofs.Common.{sym, ◌∙◌}
use Rattle.source_rename.proofs.Keys.{key_in_first, no_key}
use Rattle.source_rename.proofs.methods.has_named_key.Goals as goal

pub returns-in-Some : goal.returns-in-Some
returns-in-Some c = c.holds_named.ensures ∙ sym (key_in_first c.args.name.now c.args.slots.now c.in-Some.slot.now (sym c.in-Some.ensures))

pub returns-in-None : goal.returns-in-None
returns-in-None c = sym (no_key c.args.name.now c.args.slots.now (sym c.in-None.ensures))
