use Rattle.std.proofs.Common.{◌≡◌, Some, ap, sym, ◌∙◌, arith, rules, false}
use Rattle.std.proofs.lemmas.Str.Pattern.{split_parts}
use Rattle.command_words.specs.Values.{is_empty}
use Rattle.command_words.proofs.NameLists.{added, names_last, names_step, parts}
use Rattle.command_words.proofs.values.names_in.Goals as goal

pub names-preserved : goal.names-preserved
names-preserved c =
    let cut = rw c.in-Some.is at (split_parts 44 c.names.rest.now c.split_once.result c.split_once.ensures.cases (omega arith)) in
    let some : is_empty c.in-Some.name.now ≡ false = sym c.is_empty.ensures ∙ c.if-is_empty.false in
    let step = names_step c.names.names c.names.rest.now c.in-Some.name.now c.in-Some.after.now cut.0 cut.1 some in
    (search rules, c.names.invariant.1 ∙ step ∙ ap (λ names. added names (parts c.in-Some.after.now)) (sym c.in_ok-add.ensures))

pub returns : goal.returns
returns c =
    let whole = rw c.in_default.is at (split_parts 44 c.names.rest.now c.split_once.result c.split_once.ensures.cases (omega arith)) in
    let some : is_empty c.names.rest.now ≡ false = sym c.is_empty-2.ensures ∙ c.if-is_empty-2.false in
    let last = names_last c.names.names c.names.rest.now whole some in
    sym (c.names.invariant.1 ∙ last ∙ ap Some (sym c.in_ok-add-2.ensures))
