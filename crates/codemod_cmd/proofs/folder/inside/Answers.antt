use Rattle.std.proofs.Common.{◌∙◌, sym, ap, ◌++◌, [], ◌∷◌}
use Rattle.std.specs.Prelude.{if◌then◌else◌}
use Rattle.codemod_cmd.specs.Folders.{is_taken, inner}
use Rattle.codemod_cmd.proofs.Entries.{inside_more}
use Rattle.codemod_cmd.proofs.folder.inside.Goals as goal

pub loop-entry-preserved : goal.loop-entry-preserved
loop-entry-preserved c =
    let extensions = c.args.extensions.now in
    let folder = c.args.folder.now in
    let entry = c.entry-item.result in
    let more = inside_more extensions folder c.as_slice-entry-items.result.now c.loop-entry.entry-index entry c.loop-entry-test.true c.entry-item.is in
    c.in_ok-add.ensures ∙ ap (λ l. l ++ (if is_taken extensions entry then inner folder entry ∷ [] else [])) c.loop-entry.invariant ∙ sym more
