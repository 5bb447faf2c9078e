use Rattle.std.proofs.Common.{◌≤◌, map, vec_capacity}
use Rattle.node_arena.specs.Lists.{is_list}
use Rattle.node_arena.proofs.Making.{IsMaking}
use Rattle.node_arena.proofs.links.push_slots.Given as goal

abbrev pub invariant-loop-index : goal.invariant-loop-index
invariant-loop-index l = record {
  making : IsMaking l.initial.slots.items l.slots.items l.initial.places.items l.places.items l.node (map is_list l.fields) l.index;
  slot_capacity : vec_capacity l.initial.slots ≤ vec_capacity l.slots;
  place_capacity : vec_capacity l.initial.places ≤ vec_capacity l.places;
}
