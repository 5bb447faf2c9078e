use Rattle.std.proofs.Common.{◌≡◌, drop}
use Rattle.js_lexer.specs.Blanks.{blank_len, gap_len}
use Rattle.js_lexer.specs.Parts.{row_end}
use Rattle.js_lexer.proofs.blanks.gap_len.Given as goal

abbrev pub invariant-loop-at : goal.invariant-loop-at
invariant-loop-at g l = row_end blank_len l.skip l.at (drop l.at (g.T.Text.bytes l.rest)) ≡ gap_len (g.T.Text.bytes l.rest)
