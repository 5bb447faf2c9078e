use Rattle.std.proofs.Common.{◌∙◌, sym, ap, refl, length, arith}
use Rattle.std.specs.Prelude.{bytes_eq}
use Rattle.std.proofs.lemmas.List.{take_rest}
use Rattle.js_tokens.proofs.JoinedLemmas.{joined_eq}
use Rattle.js_tokens.proofs.readable.JoinedText.is.Goals as goal

pub returns-then-eq : goal.returns-then-eq
returns-then-eq c =
    let front = c.args.self.front.now in
    let rest = c.args.self.rest.now in
    let word = c.args.word.now in
    let whole = joined_eq front rest word (omega arith) in
    let front_same = sym c.eq.ensures ∙ c.if-eq.true in
    let rest_same = c.eq-then-eq.ensures ∙ ap (λ w. bytes_eq w rest) (take_rest word (length front)) in
    rest_same ∙ sym (whole ∙ rw front_same refl)
