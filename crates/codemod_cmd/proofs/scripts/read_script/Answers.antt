use Rattle.std.proofs.Common.{sym, subst, ◌∙◌}
use Rattle.codemod_cmd.specs.Rows.{HasBytes}
use Rattle.codemod_cmd.proofs.Refusals.{source_of_bytes, source_is}
use Rattle.codemod_cmd.proofs.scripts.read_script.Goals as goal

pub returns-in-Ok-new-clause-sourced : goal.returns-in-Ok-new-clause-sourced
returns-in-Ok-new-clause-sourced g c =
    let bytes = c.in-Ok.bytes.items in
    let source = c.in-Ok-new.source in
    let made = sym c.new.ensures ∙ c.in-Ok-new.is in
    (subst (HasBytes (g.S.Store.contents c.args.store.now) c.args.name.now) (sym (source_of_bytes bytes source made)) c.in-Ok.ensures.loads, source_is bytes source made)
