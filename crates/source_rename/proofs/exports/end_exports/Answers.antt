use Rattle.std.proofs.Common.{◌≡◌, subst, sym}
use Rattle.std.specs.Prelude.{IfOk}
use Rattle.source_rename.proofs.Firsts.{ended_first}
use Rattle.source_rename.proofs.exports.end_exports.Goals as goal

pub returns-in-Some : goal.returns-in-Some
returns-in-Some c =
    subst (λ z. IfOk c.end_in_slot.result (λ all. all.items ≡ z)) (sym (ended_first c.args.search.now.source.now c.args.search.now.spans.now c.args.slots.now c.in-Some.slot.now c.args.edits.now (sym c.in-Some.ensures)))
    c.end_in_slot.ensures
