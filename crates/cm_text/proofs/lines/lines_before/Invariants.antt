use Rattle.std.proofs.Common.{◌≡◌, ◌≤◌}
use Rattle.cm_text.specs.Lines.{lines_before}
use Rattle.cm_text.proofs.lines.lines_before.Given as goal

abbrev pub invariant-loop-last : goal.invariant-loop-last
invariant-loop-last l = record { count : l.lines ≡ lines_before l.bytes l.last; small : l.lines ≤ l.last }
