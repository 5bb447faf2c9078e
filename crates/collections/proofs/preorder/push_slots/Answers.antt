use Rattle.collections.proofs.WorkStack.{slots_push}
use Rattle.collections.proofs.preorder.push_slots.Goals as goal

pub returns-clause-waits : goal.returns-clause-waits
returns-clause-waits c =
    slots_push c.args.arena.now.forest c.args.stack.now.items c.push_list.new.stack.items c.push_list-2.new.stack.items c.push_list-3.new.stack.items c.push_list-4.new.stack.items
    c.args.depth c.places-most.result c.args.node c.slot_first-4.result c.slot_first-3.result c.slot_first-2.result c.slot_first.result
    c.if-depth-eq0.false c.places-most.ensures.count
    c.slot_first.ensures.place c.in_ok-push_list.ensures.waits
    c.slot_first-2.ensures.place c.in_ok-push_list-2.ensures.waits
    c.slot_first-3.ensures.place c.in_ok-push_list-3.ensures.waits
    c.slot_first-4.ensures.place c.in_ok-push_list-4.ensures.waits
