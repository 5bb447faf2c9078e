use Rattle.std.proofs.Common.{◌≡◌, take}
use Rattle.tree_core.proofs.units.Units.of_bytes.Given as goal

abbrev pub invariant-loop-byte : goal.invariant-loop-byte
invariant-loop-byte l = l.units ≡ take l.byte-index l.bytes
