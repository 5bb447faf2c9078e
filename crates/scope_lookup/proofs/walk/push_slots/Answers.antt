use Rattle.scope_lookup.proofs.WorkStack.{slots_push}
use Rattle.scope_lookup.proofs.walk.push_slots.Goals as goal

pub returns-clause-waits : goal.returns-clause-waits
returns-clause-waits c =
    slots_push c.args.arena.now c.args.stack.now.items c.push_slot.new.stack.items c.push_slot-2.new.stack.items c.push_slot-3.new.stack.items c.push_slot-4.new.stack.items
    c.args.depth c.args.scoping c.args.node c.if-depth-eq0.false
    c.in_ok-push_slot.ensures.waits c.in_ok-push_slot-2.ensures.waits c.in_ok-push_slot-3.ensures.waits c.in_ok-push_slot-4.ensures.waits
