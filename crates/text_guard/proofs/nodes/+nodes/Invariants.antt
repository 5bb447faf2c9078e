use Rattle.std.proofs.Common.{◌≡◌, ◌↔◌, drop}
use Rattle.text_guard.proofs.Lengths.{compared_slots, compared_places}
use Rattle.text_guard.proofs.nodes.+nodes.Given as goal

abbrev pub invariant-same_slots-loop-at : goal.invariant-same_slots-loop-at
invariant-same_slots-loop-at l = (compared_slots l.a ≡ compared_slots l.b) ↔ (compared_slots (drop l.at l.a) ≡ compared_slots (drop l.at l.b))

abbrev pub invariant-same_list-loop-at : goal.invariant-same_list-loop-at
invariant-same_list-loop-at l = (compared_places l.a ≡ compared_places l.b) ↔ (compared_places (drop l.at l.a) ≡ compared_places (drop l.at l.b))
