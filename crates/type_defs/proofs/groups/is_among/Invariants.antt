use Rattle.std.proofs.Common.{◌≡◌, drop}
use Rattle.type_defs.specs.Groups.{is_among}
use Rattle.type_defs.proofs.groups.is_among.Given as goal

abbrev pub invariant-loop-one : goal.invariant-loop-one
invariant-loop-one l = is_among (drop l.one-index l.groups) l.group ≡ is_among l.groups l.group
