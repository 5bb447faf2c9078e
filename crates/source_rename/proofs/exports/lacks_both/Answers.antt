use Rattle.std.proofs.Common.{◌≡◌, ◌&&◌, true, false, sym, ap, ◌∙◌}
use Rattle.tree_core.specs.View.{slot_view}
use Rattle.source_rename.specs.Exports.{is_empty}
use Rattle.source_rename.proofs.Firsts.{lacks_of}
use Rattle.source_rename.proofs.exports.lacks_both.Goals as goal

pub returns-then-is_empty : goal.returns-then-is_empty
returns-then-is_empty c =
    let a : is_empty (slot_view c.in-Some.declaration.now) ≡ true = sym c.is_empty.ensures ∙ c.if-is_empty.true in
    c.is_empty-then-is_empty.ensures
    ∙ (ap (λ z. z && is_empty (slot_view c.in-Some-at.source.now)) (sym a) ∙ sym (lacks_of c.args.slots.now c.in-Some.declaration.now c.in-Some-at.source.now (sym c.in-Some.ensures) (sym c.in-Some-at.ensures)))

pub returns-else-is_empty : goal.returns-else-is_empty
returns-else-is_empty c =
    let a : is_empty (slot_view c.in-Some.declaration.now) ≡ false = sym c.is_empty.ensures ∙ c.if-is_empty.false in
    c.if-is_empty.false
    ∙ (ap (λ z. z && is_empty (slot_view c.in-Some-at.source.now)) (sym a) ∙ sym (lacks_of c.args.slots.now c.in-Some.declaration.now c.in-Some-at.source.now (sym c.in-Some.ensures) (sym c.in-Some-at.ensures)))
