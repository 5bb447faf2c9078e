use Rattle.std.proofs.Common.{arith}
use Rattle.node_arena.proofs.Making.{making_more}
use Rattle.node_arena.proofs.links.push_slots.Goals as goal

pub loop-index-preserved : goal.loop-index-preserved
loop-index-preserved c = record {
  making =
      making_more _ _ _ _ _ _ _ c.args.fields.now _ _ _ _ c.loop-index.invariant.making c.loop-index-test.true c.loop-index.places.ok.0 c.loop-index.slots.ok.0
      c.push_slot.ensures.slots c.push_slot.ensures.places;
  slot_capacity = omega arith;
  place_capacity = omega arith;
}
