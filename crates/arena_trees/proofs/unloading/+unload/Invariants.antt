use Rattle.std.proofs.Common.{◌+◌, ◌-◌, ◌*◌, ◌<◌, ◌≤◌, length, map, IfSome}
use Rattle.tree_core.specs.Height.{places_height, slots_height}
use Rattle.tree_core.specs.View.{place_view, places_of, slot_view, slots_of}
use Rattle.arena_trees.proofs.unloading.+unload.Given as goal

abbrev pub decreases-unload_node : goal.decreases-unload_node
decreases-unload_node l = 4 * l.levels

abbrev pub decreases-unload_slot : goal.decreases-unload_slot
decreases-unload_slot l = 4 * l.levels + 3

abbrev pub decreases-unload_list : goal.decreases-unload_list
decreases-unload_list l = 4 * l.levels + 2

abbrev pub decreases-unload_place : goal.decreases-unload_place
decreases-unload_place l = 4 * l.levels + 1

abbrev pub invariant-unload_node-loop-index : goal.invariant-unload_node-loop-index
invariant-unload_node-loop-index l = slots_height (slots_of (map slot_view l.slots)) ≤ l.levels - 1

abbrev pub invariant-unload_list-loop-turn : goal.invariant-unload_list-loop-turn
invariant-unload_list-loop-turn l = record {
  at : IfSome l.at (λ p. p < length l.arena.forest.places);
  height : places_height (places_of (map place_view l.places)) ≤ l.levels;
}
