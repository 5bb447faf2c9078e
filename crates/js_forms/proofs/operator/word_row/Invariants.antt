use Rattle.std.proofs.Common.{◌≡◌, drop}
use Rattle.js_forms.specs.Operators as spec
use Rattle.js_forms.proofs.operator.word_row.Given as goal

abbrev pub invariant-loop-row : goal.invariant-loop-row
invariant-loop-row l = spec.row_of l.word l.rows ≡ spec.row_of l.word (drop l.row-index l.rows)
