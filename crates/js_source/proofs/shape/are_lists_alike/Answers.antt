use Rattle.std.proofs.Common.{◌≡◌, ◌∙◌, Bool, true, false, not, refl, arith}
use mathlib.Core.Bool.{beq}
use Rattle.js_source.proofs.Shapes.{alike_more, alike_all}
use Rattle.js_source.proofs.shape.are_lists_alike.Goals as goal

same : (a b : Bool) → not (beq a b) ≡ false → a ≡ b
same true true _ = refl
same false false _ = refl
same true false e = cc
same false true e = cc

pub loop-at-preserved : goal.loop-at-preserved
loop-at-preserved c =
    alike_more c.args.slots.now c.args.fields.now c.loop-at.at c.index-slots-at.result _ (omega arith) (omega arith) c.index-slots-at.is (same _ _ c.if-fields-at.false ∙ c.is_list.ensures) c.loop-at.invariant

pub returns : goal.returns
returns c _ = alike_all c.args.slots.now c.args.fields.now c.loop-at.at (omega arith) (omega arith) c.loop-at.invariant
