use Rattle.std.proofs.Common.{◌≡◌, ◌≤◌, ◌*◌, drop}
use Rattle.cm_text.specs.Lines.{blank_end}
use Rattle.cm_text.proofs.lines.blank_end.Given as goal

abbrev pub invariant-loop-byte : goal.invariant-loop-byte
invariant-loop-byte l =
    record { rest : blank_end l.width l.column (drop l.byte-index l.bytes) ≡ blank_end l.width 0 l.bytes; small : l.column ≤ 16 * l.byte-index }
