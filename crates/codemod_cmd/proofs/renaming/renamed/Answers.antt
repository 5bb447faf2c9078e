use Rattle.std.proofs.Common.{◌≤◌, sym, subst, inl, arith}
use Rattle.tree_core.specs.View.{syntax}
use Rattle.first_rename.specs.Names.{count_of}
use Rattle.codemod_cmd.specs.Script.{renames}
use Rattle.codemod_cmd.specs.FileAnswer.{FileAnswer, Renames, Makes, max_items}
use Rattle.codemod_cmd.proofs.Refusals.{told_answer}
use Rattle.codemod_cmd.proofs.renaming.renamed.Goals as goal

pub returns : goal.returns
returns c =
    let s = c.args.source.now in
    let old = c.args.names.now.old.now in
    let new = c.args.names.now.new.now in
    let p = c.args.parsed.now in
    let out = c.in_ok-text.text.items in
    let few : count_of old (syntax p.tree) ≤ max_items = omega (arith, c.count.ensures, c.if-count-gt-MAX_ITEMS.false) in
    let is : Renames old new s out = record { tree = syntax p.tree; spans = p.spans; tree_of = c.requires.tree; few = few; reads = c.in_ok-text.ensures.reads; keeps = c.in_ok-text.ensures.keeps } in
    let makes : Makes (renames old new) s out = inl is in
    subst (λ t. FileAnswer (renames old new) s c.told.result.answer t) (sym c.told.ensures.text) (told_answer (renames old new) s out c.told.result.answer c.told.ensures.answer c.requires.source makes)
