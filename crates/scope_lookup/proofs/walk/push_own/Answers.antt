use Rattle.scope_lookup.proofs.WorkStack.{own_push}
use Rattle.scope_lookup.proofs.walk.push_own.Goals as goal

pub returns-clause-waits : goal.returns-clause-waits
returns-clause-waits c =
    own_push c.args.arena.now c.args.stack.now.items c.push_own_slot.new.stack.items c.push_own_slot-2.new.stack.items c.push_own_slot-3.new.stack.items c.push_own_slot-4.new.stack.items
    c.args.scope.now
    c.in_ok-push_own_slot.ensures.waits c.in_ok-push_own_slot-2.ensures.waits c.in_ok-push_own_slot-3.ensures.waits c.in_ok-push_own_slot-4.ensures.waits
