use Rattle.std.proofs.Common.{◌∙◌, sym, ap, arith, rules}
use Rattle.std.proofs.lemmas.List.{take_rest}
use Rattle.js_tokens.specs.Texts.{cooked_piece}
use Rattle.js_tokens.proofs.TextLemmas.{cooked_step, cooked_stop, cooked_end}
use Rattle.js_tokens.proofs.text.cooked_units.Goals as goal

pub returns-in_default-clause-bad_escape : goal.returns-in_default-clause-bad_escape
returns-in_default-clause-bad_escape c = λ at same.
    let none = sym (c.cooked_piece.ensures.value ∙ ap (cooked_piece c.args.how) (take_rest c.args.raw.now c.loop-at.at)) ∙ c.in_default.is in
    let stops = cooked_stop c.args.how c.args.raw.now c.loop-at.units c.loop-at.at c.loop-at.invariant.so_far (omega arith) none in
    (cc)

pub loop-at-preserved : goal.loop-at-preserved
loop-at-preserved c = record {
  so_far = cooked_step c.args.how c.args.raw.now c.loop-at.units _ c.loop-at.at _ c.in-Some.piece
      c.loop-at.invariant.so_far (omega arith)
      (sym (c.cooked_piece.ensures.value ∙ ap (cooked_piece c.args.how) (take_rest c.args.raw.now c.loop-at.at)) ∙ c.in-Some.is)
      (search rules) (search rules) (search rules);
  within = omega arith;
}

pub returns-clause-value : goal.returns-clause-value
returns-clause-value c =
    cooked_end c.args.how c.args.raw.now c.loop-at.units c.loop-at.at c.loop-at.invariant.so_far (omega arith)
