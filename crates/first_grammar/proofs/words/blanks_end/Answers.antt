use Rattle.std.proofs.Common.{rules, arith, length}
use Rattle.std.proofs.lemmas.Grind.{common_steps}
use Rattle.first_grammar.specs.Words.{run, is_blank}
use Rattle.first_grammar.proofs.Turns.{turn_left, turns_done}
use Rattle.first_grammar.proofs.words.blanks_end.Goals as goal

pub returns-then-not-is_blank-clause-value : goal.returns-then-not-is_blank-clause-value
unfolding run
returns-then-not-is_blank-clause-value c =
    let e = turn_left (λ n. run is_blank c.args.bytes.now n c.loop-at.at) (length c.args.bytes.now) c.loop-at.at c.loop-at-test.true c.loop-at.invariant in
    first_of (search rules, grind (arith, common_steps))

pub loop-at-preserved : goal.loop-at-preserved
unfolding run
loop-at-preserved c =
    let e = turn_left (λ n. run is_blank c.args.bytes.now n c.loop-at.at) (length c.args.bytes.now) c.loop-at.at c.loop-at-test.true c.loop-at.invariant in
    first_of (search rules, grind (arith, common_steps))

pub returns-clause-value : goal.returns-clause-value
unfolding run
returns-clause-value c =
    let e = turns_done (λ n. run is_blank c.args.bytes.now n c.loop-at.at) (length c.args.bytes.now) c.loop-at.at c.loop-at-test.false c.loop-at.invariant in
    first_of (search rules, grind (arith, common_steps))
