use Rattle.std.proofs.Common.{◌≡◌, drop, map}
use Rattle.type_defs.specs.Fields.{row_of}
use Rattle.collections.specs.Reads.{named}
use Rattle.collections.proofs.field_values.named.Given as goal

abbrev pub invariant-loop-index : goal.invariant-loop-index
invariant-loop-index l = named l.index l.name (map row_of (drop l.index l.fields)) ≡ named 0 l.name (map row_of l.fields)
