use Rattle.std.proofs.Common.{◌-◌}
use Rattle.arena_trees.proofs.Heights.{places_more, slots_more}
use Rattle.arena_trees.proofs.unloading.+unload.Goals as goal

pub unload_list-loop-turn-preserved : goal.unload_list-loop-turn-preserved
unload_list-loop-turn-preserved n c = record {
  at = c.next-at.ensures.within;
  height = places_more c.args.levels c.loop-turn.places c.push.new.self c.in_ok-unload_place.field-0 c.in_ok-push.ensures.ok c.loop-turn.invariant.height c.in_ok-unload_place.ensures.height;
}

pub unload_node-loop-index-preserved : goal.unload_node-loop-index-preserved
unload_node-loop-index-preserved n c =
    slots_more (c.args.levels - 1) c.loop-index.slots c.push.new.self c.in_ok-slot.slot c.in_ok-push.ensures.ok c.loop-index.invariant c.in_ok-slot.ensures.height
