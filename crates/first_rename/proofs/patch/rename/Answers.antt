use Rattle.std.proofs.Common.{◌≡◌, ap, subst, sym, ◌∙◌}
use Rattle.tree_core.specs.View.{syntax}
use Rattle.first_rename.specs.Edits.{edits, patched, Ordered}
use Rattle.first_rename.proofs.Renames.{ordered_edits, reads_renamed, keeps_renamed}
use Rattle.first_rename.proofs.Unchanged.{no_patch, same_name}
use Rattle.first_rename.proofs.patch.rename.Goals as goal

pub patch-requires : goal.patch-requires
patch-requires c =
    let t = syntax c.args.parsed.now.tree in
    let is : c.deref.result.now ≡ edits c.args.old.now c.args.parsed.now.spans t = c.deref.ensures.value ∙ (c.in_ok-stretches.ensures ∙ ap (λ v. edits c.args.old.now v t) c.as_slice.ensures) in
    subst (λ v. Ordered c.args.source.now 0 v) (sym is) (ordered_edits c.args.source.now c.args.new.now c.requires.plain c.args.parsed.now.spans c.args.old.now t c.requires.spelled)

pub returns-clause-text : goal.returns-clause-text
returns-clause-text c =
    c.in_ok-out.ensures
    ∙ ap (λ v. patched c.args.source.now c.args.new.now 0 v) (c.deref.ensures.value ∙ (c.in_ok-stretches.ensures ∙ ap (λ v. edits c.args.old.now v (syntax c.args.parsed.now.tree)) c.as_slice.ensures))

pub returns-clause-reads : goal.returns-clause-reads
returns-clause-reads c =
    reads_renamed c.args.source.now c.args.new.now c.requires.plain c.args.parsed.now.spans c.args.old.now (syntax c.args.parsed.now.tree) c.requires.spelled c.in_ok-out.out.items (returns-clause-text c)

pub returns-clause-keeps : goal.returns-clause-keeps
returns-clause-keeps c =
    keeps_renamed c.args.source.now c.args.new.now c.requires.plain c.args.parsed.now.spans c.args.old.now (syntax c.args.parsed.now.tree) c.requires.spelled c.in_ok-out.out.items (returns-clause-text c)

pub returns-clause-none_named : goal.returns-clause-none_named
returns-clause-none_named c none = returns-clause-text c ∙ no_patch c.args.source.now c.args.new.now c.args.old.now c.args.parsed.now.spans (syntax c.args.parsed.now.tree) none

pub returns-clause-same_name : goal.returns-clause-same_name
returns-clause-same_name c e = returns-clause-text c ∙ same_name c.args.source.now c.args.new.now c.args.old.now c.args.parsed.now.spans (syntax c.args.parsed.now.tree) c.requires.spelled e
