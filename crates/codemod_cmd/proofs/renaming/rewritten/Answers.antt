use Rattle.std.proofs.Common.{◌≤◌, refl, sym, subst, inr}
use Rattle.tree_core.specs.View.{syntax}
use Rattle.first_rename.specs.Names.{count_of}
use Rattle.codemod_cmd.specs.Script.{renames}
use Rattle.codemod_cmd.specs.FileAnswer.{FileAnswer, Rewrites, Makes, max_items}
use Rattle.codemod_cmd.specs.Readings.{IsTold}
use Rattle.codemod_cmd.proofs.Refusals.{told_answer, not_above}
use Rattle.codemod_cmd.proofs.renaming.rewritten.Goals as goal

pub returns-in-Ok : goal.returns-in-Ok
returns-in-Ok c =
    let s = c.args.source.now in
    let old = c.args.names.now.old.now in
    let new = c.args.names.now.new.now in
    let p = c.args.parsed.now in
    let out = c.in-Ok.text.items in
    let few : count_of old (syntax p.tree) ≤ max_items = not_above max_items _ (λ more. let many = c.in-Ok.ensures.list_long.1 more in (cc)) in
    let rewrites : Rewrites old new s p out = record { few = few; methods = c.in-Ok.ensures.no_bad_method; text = c.in-Ok.ensures.text } in
    let makes : Makes (renames old new) s out = inr (c.requires.other, (p, c.requires.parsed, rewrites)) in
    let told : IsTold s out c.told.result.answer = subst (λ b. IsTold b out c.told.result.answer) c.bytes.ensures.value c.told.ensures.answer in
    subst (λ t. FileAnswer (renames old new) s c.told.result.answer t) (sym c.told.ensures.text) (told_answer (renames old new) s out c.told.result.answer told c.requires.source makes)

pub returns-in-Err-ListLong : goal.returns-in-Err-ListLong
returns-in-Err-ListLong c =
    let s = c.args.source.now in
    let old = c.args.names.now.old.now in
    let new = c.args.names.now.new.now in
    let long = rw c.in-Err-ListLong.field-0-is at c.in-Err-ListLong.ensures.list_long in
    let many = long.0 refl in
    subst (λ a. FileAnswer (renames old new) s a c.list_long.result.text.items) (sym c.list_long.ensures) (c.requires.source, (inr (c.requires.other, (c.args.parsed.now, c.requires.parsed, many)), refl))

pub returns-in-Err-BadMethod : goal.returns-in-Err-BadMethod
returns-in-Err-BadMethod c =
    let s = c.args.source.now in
    let old = c.args.names.now.old.now in
    let new = c.args.names.now.new.now in
    let bad = rw c.in-Err-BadMethod.field-0-is at c.in-Err-BadMethod.ensures.bad_method in
    let is = bad c.in-Err-BadMethod.address refl in
    subst (λ a. FileAnswer (renames old new) s a c.error.result.text.items) (sym c.error.ensures) (c.requires.source, (c.requires.other, (c.args.parsed.now, c.requires.parsed, is)))
