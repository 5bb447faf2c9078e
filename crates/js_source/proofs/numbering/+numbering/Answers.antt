use Rattle.std.proofs.Common.{◌≡◌, ◌∙◌, ◌+◌, ◌≤◌, [], ◌∷◌, length, map, subst, arith, rules, Some}
use Rattle.tree_core.specs.Numbers.{slots_count, places_count, places_length}
use Rattle.tree_core.specs.declared.tree.Tree.{fold-roll-Tree}
use Rattle.tree_core.specs.Syntax.{Syntax}
use Rattle.tree_core.specs.View.{Row, Spot, slot_step, place_step, tree_step, slot_view, place_view, slots_of, places_of}
use Rattle.js_source.specs.Nested.{Grows}
use Rattle.js_source.specs.Sizes.{slots_places, all_places}
use Rattle.js_source.proofs.LeafNodes.{node_spelled, slots_spelled_kept, places_spelled_kept, slots_spelled-push, places_spelled-push}
use Rattle.js_source.proofs.Nests.{grows_on, slots_kept, places_kept, node_nested}
use Rattle.js_source.proofs.Numberings.{slots_length, slots_length-push, places_length-push, slots_numbered-push, places_numbered-push, slots_nested-push, places_nested-push}
use Rattle.js_source.proofs.Shapes.{slots_shaped-push, places_shaped-push}
use Rattle.js_source.proofs.Sums.{slots_nodes-push, slots_places-push, slots_low-push, places_nodes-push, all_places-push, places_low-push}
use Rattle.js_source.proofs.numbering.+numbering.Goals as goal

pub number_node-returns-clause-nested : goal.number_node-returns-clause-nested
number_node-returns-clause-nested t c =
    let start = c.args.numbers.now.spans in
    let end = c.number_slots.new.numbers.spans in
    let number = c.in_ok-number.number in
    let span = c.within-span.result in
    let tree = c.args.tree.now in
    node_nested _ tree.kind tree.scalars (slots_of (map slot_view c.number_slots.new.slots)) c.in_ok-tree.field-0 start end c.args.outer span number
    (fold-roll-Tree Row Spot Syntax slot_step place_step tree_step (record { kind = tree.kind; scalars = tree.scalars; slots = c.number_slots.new.slots; notes = c.in_ok-tree.field-0; from = Some number }))
    c.in_ok-number.ensures.number
    (subst (λ z. Grows z end) c.in_ok-number.ensures.spans c.in_ok-number_slots.ensures.grows) c.within-span.ensures c.in_ok-number_slots.ensures.nested

pub number_node-returns-clause-leaves : goal.number_node-returns-clause-leaves
number_node-returns-clause-leaves t c =
    let end = c.number_slots.new.numbers.spans in
    let number = c.in_ok-number.number in
    let tree = c.args.tree.now in
    node_spelled c.args.given.now.spanned.source.now _ tree.kind tree.scalars (slots_of (map slot_view c.number_slots.new.slots)) c.in_ok-tree.field-0 c.args.numbers.now.spans end c.within-span.result number
    (fold-roll-Tree Row Spot Syntax slot_step place_step tree_step (record { kind = tree.kind; scalars = tree.scalars; slots = c.number_slots.new.slots; notes = c.in_ok-tree.field-0; from = Some number }))
    c.in_ok-number.ensures.number
    (subst (λ z. Grows z end) c.in_ok-number.ensures.spans c.in_ok-number_slots.ensures.grows) (c.in_ok-is_spelled.ensures (search rules)) c.in_ok-number_slots.ensures.leaves

pub number_slots-loop-turn-preserved : goal.number_slots-loop-turn-preserved
number_slots-loop-turn-preserved t c =
    let text = c.args.given.now.spanned.source.now in
    let parent = c.args.parent in
    let start = c.args.numbers.now.spans in
    let before = c.loop-turn.numbers.spans in
    let after = c.number_slot.new.numbers.spans in
    let slots = c.loop-turn.slots in
    let slot = c.number_slot.new.slot in
    let all = c.push.new.self in
    let e = c.in_ok-push.ensures.ok in
    let i = c.loop-turn.invariant in
    let s = c.in_ok-child.ensures in
    let length_more : slots_length (slots_of (map slot_view all)) ≡ slots_length (slots_of (map slot_view slots)) + places_length (slot_view slot).1 = slots_length-push slots all slot e in
    let nodes_more : slots_count (slots_of (map slot_view all)) ≡ slots_count (slots_of (map slot_view slots)) + places_count (slot_view slot).1 = slots_nodes-push slots all slot e in
    let places_more : slots_places (slots_of (map slot_view all)) ≡ slots_places (slots_of (map slot_view slots)) + all_places (slot_view slot).1 = slots_places-push slots all slot e in
    let here : c.loop-turn.child ≡ 0 + slots_length (slots_of (map slot_view slots)) = omega (arith, i.child) in
    let few : length start + slots_count (slots_of (map slot_view slots)) ≤ length before = omega (arith, i.nodes) in
    record {
      child = omega (arith, length_more, s.child, i.child);
      numbers = slots_numbered-push parent.number 0 c.loop-turn.child (length start) (length before) slots all slot e here i.nodes i.numbers s.numbers;
      nodes = omega (arith, nodes_more, s.nodes, i.nodes);
      grows = grows_on start before after i.grows s.grows;
      nested = slots_nested-push after parent.span slots all slot e (slots_kept before after s.grows parent.span parent.number 0 (length start) (slots_of (map slot_view slots)) i.numbers few i.nested) s.nested;
      places = omega (arith, places_more, s.places, i.places);
      low = slots_low-push slots all slot c.args.depth e i.low s.low;
      shaped = slots_shaped-push slots all slot e i.shaped s.single s.shaped;
      leaves = slots_spelled-push text after slots all slot e (slots_spelled_kept text before after s.grows parent.number 0 (length start) (slots_of (map slot_view slots)) i.numbers few i.leaves) s.leaves;
      len = s.len ∙ i.len;
    }

pub number_places-loop-turn-preserved : goal.number_places-loop-turn-preserved
number_places-loop-turn-preserved t c =
    let text = c.args.given.now.spanned.source.now in
    let parent = c.args.parent in
    let first = c.args.first in
    let start = c.args.numbers.now.spans in
    let before = c.loop-turn.numbers.spans in
    let after = c.number_place.new.numbers.spans in
    let places = c.loop-turn.places in
    let place = c.number_place.new.place in
    let all = c.push.new.self in
    let e = c.in_ok-push.ensures.ok in
    let i = c.loop-turn.invariant in
    let s = c.in_ok-number_place.ensures in
    let length_more : places_length (places_of (map place_view all)) ≡ places_length (places_of (map place_view places)) + 1 = places_length-push places all place e in
    let nodes_more : places_count (places_of (map place_view all)) ≡ places_count (places_of (map place_view places)) + places_count (places_of (place_view place ∷ [])) = places_nodes-push places all place e in
    let places_more : all_places (places_of (map place_view all)) ≡ all_places (places_of (map place_view places)) + all_places (places_of (place_view place ∷ [])) = all_places-push places all place e in
    let few : length start + places_count (places_of (map place_view places)) ≤ length before = omega (arith, i.nodes) in
    record {
      child = omega (arith, length_more, c.in_ok-child.ensures.next, i.child);
      numbers = places_numbered-push parent.number first c.loop-turn.child (length start) (length before) places all place e i.child i.nodes i.numbers s.numbers;
      nodes = omega (arith, nodes_more, s.nodes, i.nodes);
      grows = grows_on start before after i.grows s.grows;
      nested = places_nested-push after parent.span places all place e (places_kept before after s.grows parent.span parent.number first (length start) (places_of (map place_view places)) i.numbers few i.nested) s.nested;
      places = omega (arith, places_more, s.places, i.places);
      low = places_low-push places all place c.args.depth e i.low s.low;
      shaped = places_shaped-push places all place e i.shaped s.shaped;
      leaves = places_spelled-push text after places all place e (places_spelled_kept text before after s.grows parent.number first (length start) (places_of (map place_view places)) i.numbers few i.leaves) s.leaves;
      len = s.len ∙ i.len;
    }
