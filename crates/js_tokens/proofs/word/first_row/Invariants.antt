use Rattle.std.proofs.Common.{◌≡◌, drop, map}
use Rattle.js_tokens.specs.Words.{first_spelled}
use Rattle.js_tokens.proofs.word.first_row.Given as goal

abbrev pub invariant-loop-row : goal.invariant-loop-row
invariant-loop-row l = first_spelled (map (λ row. row.0) (drop l.row-index l.rows)) l.name ≡ first_spelled (map (λ row. row.0) l.rows) l.name
