use Rattle.std.proofs.Common.{◌≡◌, ◌++◌, ◌∙◌, drop, false, ap, sym, append-nil, rules}
use Rattle.std.proofs.lemmas.List.{take_rest}
use Rattle.js_lexer.proofs.Kept.{no_comment}
use Rattle.js_lexer.specs.Parts.{has_byte}
use Rattle.js_lexer.proofs.cursor.pass_blank.Goals as goal

pub returns-then-not-has_byte-clause-kept : goal.returns-then-not-has_byte-clause-kept
returns-then-not-has_byte-clause-kept c =
    let rest = drop c.args.at c.args.text.now in
    let off : c.has_byte.result ≡ false = search rules in
    let other = ap (λ bytes. has_byte bytes 0 0x2F) (sym (take_rest c.args.text.now c.args.at)) ∙ (sym c.has_byte.ensures.value ∙ off) in
    let none = no_comment c.args.at rest other in
    sym (ap (λ z. c.args.comments.now ++ z) none ∙ append-nil c.args.comments.now)
