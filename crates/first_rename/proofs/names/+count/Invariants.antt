use Rattle.std.proofs.Common.{◌≡◌, ◌≤◌, ◌+◌, min, drop}
use Rattle.tree_core.specs.View.{syntax, slot_view}
use Rattle.first_rename.specs.Names.{count_of, count_places}
use Rattle.first_rename.proofs.Left.{slots_counted, places_counted}
use Rattle.first_rename.proofs.names.+count.Given as goal

abbrev pub invariant-count-loop-slot : goal.invariant-count-loop-slot
invariant-count-loop-slot l = record {
  fits : l.found ≤ 18446744073709551615;
  so_far : min (l.found + slots_counted l.name (drop l.slot-index l.slot-items)) 18446744073709551615 ≡ min (count_of l.name (syntax l.tree)) 18446744073709551615;
}

abbrev pub invariant-count_in_slot-loop-place : goal.invariant-count_in_slot-loop-place
invariant-count_in_slot-loop-place l = record {
  fits : l.found ≤ 18446744073709551615;
  so_far : min (l.found + places_counted l.name (drop l.place-index l.place-items)) 18446744073709551615 ≡ min (count_places l.name (slot_view l.slot).1) 18446744073709551615;
}
