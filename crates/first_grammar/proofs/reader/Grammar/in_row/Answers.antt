use Rattle.std.proofs.Common.{rules, arith}
use Rattle.std.proofs.lemmas.Grind.{common_steps}
use Rattle.first_grammar.specs.Growing.{children_view}
use Rattle.first_grammar.specs.Reading.{node, in_row, in_row_from}
use Rattle.first_grammar.proofs.Turns.{turn_left, turns_done}
use Rattle.first_grammar.proofs.reader.Grammar.in_row.Goals as goal

pub loop-turn-init : goal.loop-turn-init
unfolding in_row
loop-turn-init g c = first_of (search rules, grind (arith, common_steps))

pub returns-then-sees : goal.returns-then-sees
unfolding in_row_from
returns-then-sees g c =
    let e = turn_left (λ n. in_row_from (node c.args.self.now.depth) c.args.category c.args.close n (children_view c.loop-turn.found) c.loop-turn.cursor) _ c.loop-turn._turn c.loop-turn-test.true c.loop-turn.invariant in
    first_of (search rules, grind (arith, common_steps))

pub returns-in_err-tree : goal.returns-in_err-tree
unfolding in_row_from
returns-in_err-tree g c =
    let e = turn_left (λ n. in_row_from (node c.args.self.now.depth) c.args.category c.args.close n (children_view c.loop-turn.found) c.loop-turn.cursor) _ c.loop-turn._turn c.loop-turn-test.true c.loop-turn.invariant in
    first_of (search rules, grind (arith, common_steps))

pub loop-turn-preserved : goal.loop-turn-preserved
unfolding in_row_from
loop-turn-preserved g c =
    let e = turn_left (λ n. in_row_from (node c.args.self.now.depth) c.args.category c.args.close n (children_view c.loop-turn.found) c.loop-turn.cursor) _ c.loop-turn._turn c.loop-turn-test.true c.loop-turn.invariant in
    first_of (search rules, grind (arith, common_steps))

pub returns : goal.returns
unfolding in_row_from
returns g c =
    let e = turns_done (λ n. in_row_from (node c.args.self.now.depth) c.args.category c.args.close n (children_view c.loop-turn.found) c.loop-turn.cursor) _ c.loop-turn._turn c.loop-turn-test.false c.loop-turn.invariant in
    first_of (search rules, grind (arith, common_steps))
