use Rattle.std.proofs.Common.{rules, arith}
use Rattle.std.proofs.lemmas.Grind.{common_steps}
use Rattle.first_grammar.specs.Growing.{children_view}
use Rattle.first_grammar.specs.Reading.{node, listed_from}
use Rattle.first_grammar.proofs.Turns.{turn_left, turns_done}
use Rattle.first_grammar.proofs.reader.Grammar.listed_from.Goals as goal

pub returns-in_err-tree : goal.returns-in_err-tree
unfolding listed_from
returns-in_err-tree g c =
    let e = turn_left (λ n. listed_from (node c.args.self.now.depth) c.args.category c.args.least n (children_view c.loop-turn.found) c.loop-turn.cursor) _ c.loop-turn._turn c.loop-turn-test.true c.loop-turn.invariant in
    first_of (search rules, grind (arith, common_steps))

pub returns-then-not-eat : goal.returns-then-not-eat
unfolding listed_from
returns-then-not-eat g c =
    let e = turn_left (λ n. listed_from (node c.args.self.now.depth) c.args.category c.args.least n (children_view c.loop-turn.found) c.loop-turn.cursor) _ c.loop-turn._turn c.loop-turn-test.true c.loop-turn.invariant in
    first_of (search rules, grind (arith, common_steps))

pub loop-turn-preserved : goal.loop-turn-preserved
unfolding listed_from
loop-turn-preserved g c =
    let e = turn_left (λ n. listed_from (node c.args.self.now.depth) c.args.category c.args.least n (children_view c.loop-turn.found) c.loop-turn.cursor) _ c.loop-turn._turn c.loop-turn-test.true c.loop-turn.invariant in
    first_of (search rules, grind (arith, common_steps))

pub returns : goal.returns
unfolding listed_from
returns g c =
    let e = turns_done (λ n. listed_from (node c.args.self.now.depth) c.args.category c.args.least n (children_view c.loop-turn.found) c.loop-turn.cursor) _ c.loop-turn._turn c.loop-turn-test.false c.loop-turn.invariant in
    first_of (search rules, grind (arith, common_steps))
