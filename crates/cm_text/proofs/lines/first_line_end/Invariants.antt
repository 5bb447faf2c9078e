use Rattle.std.proofs.Common.{◌≡◌, None}
use Rattle.cm_text.specs.Lines.{first_line_end}
use Rattle.cm_text.proofs.lines.first_line_end.Given as goal

abbrev pub invariant-loop-last : goal.invariant-loop-last
invariant-loop-last l = first_line_end l.bytes l.last ≡ None
