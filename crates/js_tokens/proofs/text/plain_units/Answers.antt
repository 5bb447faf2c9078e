use Rattle.std.proofs.Common.{◌∙◌, ap, arith, rules}
use Rattle.std.proofs.lemmas.List.{take_rest}
use Rattle.js_tokens.specs.Texts.{plain_piece}
use Rattle.js_tokens.proofs.TextLemmas.{plain_step, plain_end}
use Rattle.js_tokens.proofs.text.plain_units.Goals as goal

pub loop-at-preserved : goal.loop-at-preserved
loop-at-preserved c = record {
  so_far = plain_step c.args.how c.args.raw.now c.loop-at.units _ c.loop-at.at _ c.plain_piece-piece.result
      c.loop-at.invariant.so_far (omega arith)
      (c.plain_piece-piece.ensures.value ∙ ap (plain_piece c.args.how) (take_rest c.args.raw.now c.loop-at.at))
      (search rules) (search rules) (search rules);
  within = omega arith;
}

pub returns : goal.returns
returns c = plain_end c.args.how c.args.raw.now c.loop-at.units c.loop-at.at c.loop-at.invariant.so_far (omega arith)
