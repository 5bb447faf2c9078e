use Rattle.std.proofs.Common.{◌≡◌, ◌≤◌, ◌-◌, ◌++◌, drop, length}
use Rattle.js_lexer.specs.Blanks.{blank_len}
use Rattle.js_lexer.specs.Cursors.{SpansFit, comments_from}
use Rattle.js_lexer.specs.Parts.{row_end}
use Rattle.js_lexer.proofs.cursor.keep_comments.Given as goal

abbrev pub invariant-loop-at : goal.invariant-loop-at
invariant-loop-at l = record {
  kept : l.comments ++ comments_from 0 l.at (drop l.at l.text) ≡ l.fn.comments ++ comments_from 0 l.from (drop l.from l.text);
  end : row_end blank_len 0 l.at (drop l.at l.text) ≡ row_end blank_len 0 l.from (drop l.from l.text);
  within : l.at ≤ length l.text;
  fit : SpansFit (length l.text) l.comments;
}

abbrev pub decreases-loop-at : goal.decreases-loop-at
decreases-loop-at l = length l.text - l.at
