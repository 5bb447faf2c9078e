use Rattle.std.proofs.Common.{rules, arith}
use Rattle.std.proofs.lemmas.Grind.{common_steps}
use Rattle.first_grammar.specs.Growing.{grown_view}
use Rattle.first_grammar.specs.Reading.{node, climbed, climb}
use Rattle.first_grammar.proofs.Turns.{turn_left, turns_done}
use Rattle.first_grammar.proofs.reader.Grammar.climbed.Goals as goal

pub loop-turn-init : goal.loop-turn-init
unfolding climbed
loop-turn-init g c = first_of (search rules, grind (arith, common_steps))

pub returns-in_default : goal.returns-in_default
unfolding climb
returns-in_default g c =
    let e = turn_left (λ n. climb c.args.self.now.depth (node c.args.self.now.depth) c.args.category c.args.least c.args.start n (grown_view c.loop-turn.tree) c.loop-turn.kind c.loop-turn.cursor) _ c.loop-turn._turn c.loop-turn-test.true c.loop-turn.invariant in
    first_of (search rules, grind (arith, common_steps))

pub returns-in_err-tree : goal.returns-in_err-tree
unfolding climb
returns-in_err-tree g c =
    let e = turn_left (λ n. climb c.args.self.now.depth (node c.args.self.now.depth) c.args.category c.args.least c.args.start n (grown_view c.loop-turn.tree) c.loop-turn.kind c.loop-turn.cursor) _ c.loop-turn._turn c.loop-turn-test.true c.loop-turn.invariant in
    first_of (search rules, grind (arith, common_steps))

pub loop-turn-preserved : goal.loop-turn-preserved
unfolding climb
loop-turn-preserved g c =
    let e = turn_left (λ n. climb c.args.self.now.depth (node c.args.self.now.depth) c.args.category c.args.least c.args.start n (grown_view c.loop-turn.tree) c.loop-turn.kind c.loop-turn.cursor) _ c.loop-turn._turn c.loop-turn-test.true c.loop-turn.invariant in
    first_of (search rules, grind (arith, common_steps))

pub returns : goal.returns
unfolding climb
returns g c =
    let e = turns_done (λ n. climb c.args.self.now.depth (node c.args.self.now.depth) c.args.category c.args.least c.args.start n (grown_view c.loop-turn.tree) c.loop-turn.kind c.loop-turn.cursor) _ c.loop-turn._turn c.loop-turn-test.false c.loop-turn.invariant in
    first_of (search rules, grind (arith, common_steps))
