use Rattle.std.proofs.Common.{arith}
use Rattle.leaf_spellings.proofs.PlainTexts.{plain_texts}
use Rattle.leaf_spellings.proofs.same.is_plain.Goals as goal

pub returns : goal.returns
returns c = λ _. plain_texts c.args.bytes.now c.args.units.now (omega arith) (λ k inside. c.loop-at.invariant.low k (omega arith))
    (λ k inside. c.loop-at.invariant.no_escape k (omega arith)) (λ k inside. c.loop-at.invariant.no_return k (omega arith)) (λ k inside. c.loop-at.invariant.same k (omega arith))
