-- What a transform does to a source.
use Rattle.codemod_cmd.specs.Script.{Change, prints, renames}
use Rattle.codemod_cmd.specs.declared.transform.Transform.{Transform}
use Rattle.codemod_cmd.specs.declared.transform.Transform.TheVariants.{Print, Rename}

abbrev pub change_of : Transform → Change
change_of Print = prints
change_of (Rename r) = renames r.old.now r.new.now
