use Rattle.std.proofs.Common.{◌∙◌, refl}
use Rattle.codemod_cmd.proofs.Entries.{dotted}
use Rattle.codemod_cmd.proofs.folder.has_extension.Goals as goal

pub returns-then-name-dot-eq46 : goal.returns-then-name-dot-eq46
returns-then-name-dot-eq46 c =
    let name = c.args.name.now in
    let extension = c.args.extension.now in
    c.ends_with.ensures.value ∙ dotted name extension _ c.if-name-extension.false refl c.if-name-dot-eq46.true
