use Rattle.std.proofs.Common.{◌≡◌, drop}
use Rattle.js_lexer.specs.Parts.{part_len, row_end, run}
use Rattle.js_lexer.proofs.parts.run.Given as goal

abbrev pub invariant-loop-at : goal.invariant-loop-at
invariant-loop-at g l = row_end (part_len l.part) l.skip l.at (drop l.at (g.T.Text.bytes l.rest)) ≡ run l.part l.from (g.T.Text.bytes l.rest)
