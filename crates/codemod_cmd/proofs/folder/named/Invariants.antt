use Rattle.std.proofs.Common.{◌≡◌, take}
use Rattle.codemod_cmd.specs.Folders.{named}
use Rattle.codemod_cmd.proofs.folder.named.Given as goal

abbrev pub invariant-loop-name : goal.invariant-loop-name
invariant-loop-name l = l.all.items ≡ named (take l.name-index l.name-items)
