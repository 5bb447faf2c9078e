use Rattle.std.proofs.Common.{arith}
use Rattle.std.proofs.lemmas.List.{drop_all}
use Rattle.js_tokens.specs.Pieces.{braced_digits}
use Rattle.js_tokens.proofs.piece.braced_digits.Goals as goal

pub returns-clause-value : goal.returns-clause-value
unfolding braced_digits
returns-clause-value g c =
    let none = drop_all c.loop-at.at (g.T.Text.bytes c.args.text) (omega arith) in
    rw none at c.loop-at.invariant.rest
