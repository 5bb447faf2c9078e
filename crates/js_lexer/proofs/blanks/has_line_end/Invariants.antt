use Rattle.std.proofs.Common.{◌≡◌, drop}
use Rattle.js_lexer.specs.Blanks.{has_line_end}
use Rattle.js_lexer.proofs.blanks.has_line_end.Given as goal

abbrev pub invariant-loop-at : goal.invariant-loop-at
invariant-loop-at g l = has_line_end (drop l.at (g.T.Text.bytes l.blanks)) ≡ has_line_end (g.T.Text.bytes l.blanks)
