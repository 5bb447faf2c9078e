use Rattle.std.proofs.Common.{◌≡◌, ap, arith, suc, ◌-◌}
use Rattle.first_grammar.specs.Reading.{node}
use Rattle.first_grammar.proofs.reader.+node.Goals as goal

pub returns-then-depth-eq0 : goal.returns-then-depth-eq0
unfolding node
returns-then-depth-eq0 t c _ = let none : c.args.depth ≡ 0 = omega arith in rw c.too_deep.ensures (ap (λ n. node n c.args.category c.args.least c.args.cursor.now) none)

pub returns : goal.returns
unfolding node
returns t c = let some : c.args.depth ≡ suc (c.args.depth - 1) = omega arith in rw (ap (λ n. node n c.args.category c.args.least c.args.cursor.now) some) c.whole.ensures
