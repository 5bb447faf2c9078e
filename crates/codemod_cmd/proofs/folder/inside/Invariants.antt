use Rattle.std.proofs.Common.{◌≡◌, take}
use Rattle.codemod_cmd.specs.Folders.{inside}
use Rattle.codemod_cmd.proofs.folder.inside.Given as goal

abbrev pub invariant-loop-entry : goal.invariant-loop-entry
invariant-loop-entry l = l.names.items ≡ inside l.extensions l.folder (take l.entry-index l.entry-items)
