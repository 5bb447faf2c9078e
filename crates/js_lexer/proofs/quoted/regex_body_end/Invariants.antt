use Rattle.std.proofs.Common.{◌≡◌, drop}
use Rattle.js_lexer.specs.Parts.{row_end}
use Rattle.js_lexer.specs.Quoted.{regex_part_len, regex_body_end}
use Rattle.js_lexer.proofs.quoted.regex_body_end.Given as goal

abbrev pub invariant-loop-at : goal.invariant-loop-at
invariant-loop-at g l = row_end regex_part_len l.skip l.at (drop l.at (g.T.Text.bytes l.rest)) ≡ regex_body_end (g.T.Text.bytes l.rest)
