use Rattle.std.proofs.Common.{subst, sym, ◌∙◌}
use Rattle.std.proofs.lemmas.List.{append_cancel_left}
use Rattle.first_rename.specs.Names.{IsPlainName}
use Rattle.codemod_cmd.specs.Script.{front, middle, back, IsEnd}
use Rattle.codemod_cmd.proofs.ScriptTexts.{from_front, from_old, from_new, joined}
use Rattle.codemod_cmd.proofs.script.Renaming.from_script.Goals as goal

pub returns-in_err-after : goal.returns-in_err-after
unfolding front
returns-in_err-after c =
    rw c.from_residual.ensures (λ old new h. let whole = from_front c.args.script.now old new h in c.in_err-after.ensures _ whole.2)

pub returns-in_err-after-2 : goal.returns-in_err-after-2
unfolding front middle
returns-in_err-after-2 c =
    let s = c.args.script.now in
    let rest = c.in_ok-after.field-0.now in
    let w = c.split_name.result.0.now in
    let q = c.split_name.result.1.now in
    rw c.from_residual-in_err-after-2.ensures (λ old new h.
    let left = from_old s rest w q old new c.in_ok-after.ensures c.split_name.ensures.name c.split_name.ensures.whole h in
    c.in_err-after-2.ensures _ left.1.2)

pub returns-in_err-end : goal.returns-in_err-end
unfolding front middle back
returns-in_err-end c =
    let s = c.args.script.now in
    let rest = c.in_ok-after.field-0.now in
    let w = c.split_name.result.0.now in
    let q = c.split_name.result.1.now in
    let rest' = c.in_ok-after-2.field-0.now in
    let w' = c.split_name-2.result.0.now in
    let q' = c.split_name-2.result.1.now in
    rw c.from_residual-in_err-end.ensures (λ old new h.
    let left = from_new s rest w q rest' w' q' old new c.in_ok-after.ensures c.split_name.ensures.name c.split_name.ensures.whole c.in_ok-after-2.ensures c.split_name-2.ensures.name c.split_name-2.ensures.whole h in
    c.in_err-end.ensures _ left.2.2)

pub returns-then-is_lawful : goal.returns-then-is_lawful
unfolding front middle back
returns-then-is_lawful c =
    let s = c.args.script.now in
    let rest = c.in_ok-after.field-0.now in
    let w = c.split_name.result.0.now in
    let q = c.split_name.result.1.now in
    let rest' = c.in_ok-after-2.field-0.now in
    let w' = c.split_name-2.result.0.now in
    let q' = c.split_name-2.result.1.now in
    let lawful = c.is_lawful.ensures.0 c.if-is_lawful.true in
    (lawful.0, lawful.1, (c.in_ok-end.end.now, lawful.2, joined s rest w q rest' w' q' c.in_ok-end.end.now c.in_ok-after.ensures c.split_name.ensures.whole c.in_ok-after-2.ensures c.split_name-2.ensures.whole c.in_ok-end.ensures))

pub returns-else-is_lawful : goal.returns-else-is_lawful
unfolding front middle back
returns-else-is_lawful c =
    let s = c.args.script.now in
    let rest = c.in_ok-after.field-0.now in
    let w = c.split_name.result.0.now in
    let q = c.split_name.result.1.now in
    let rest' = c.in_ok-after-2.field-0.now in
    let w' = c.split_name-2.result.0.now in
    let q' = c.split_name-2.result.1.now in
    let end = c.in_ok-end.end.now in
    λ old new h.
    let left = from_new s rest w q rest' w' q' old new c.in_ok-after.ensures c.split_name.ensures.name c.split_name.ensures.whole c.in_ok-after-2.ensures c.split_name-2.ensures.name c.split_name-2.ensures.whole h in
    let same = append_cancel_left back left.2.0 end (sym left.2.2 ∙ c.in_ok-end.ensures) in
    let wrong = c.if-is_lawful.ensures.1 (subst IsPlainName (sym left.0) h.0, subst IsPlainName (sym left.1) h.1, subst IsEnd same left.2.1) in
    cc
