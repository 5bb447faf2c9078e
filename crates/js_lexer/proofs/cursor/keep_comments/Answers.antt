use Rattle.std.proofs.Common.{◌∙◌, ◌+◌, sym, refl, arith, drop}
use Rattle.js_lexer.proofs.Kept.{comments_from-next, comments_from-stop, comments_from-done, kept-more, kept-stop}
use Rattle.js_lexer.proofs.Rows.{row_end-next, row_end-stop, row_end-done, row_end-from}
use Rattle.js_lexer.specs.Blanks.{blank_len}
use Rattle.js_lexer.specs.Cursors.{comment_at, comments_from}
use Rattle.js_lexer.proofs.cursor.keep_comments.Goals as goal

pub returns-then-len-eq0-clause-kept : goal.returns-then-len-eq0-clause-kept
returns-then-len-eq0-clause-kept c =
    let text = c.args.text.now in
    let at = c.loop-at.at in
    let none = comments_from-stop 0 at text refl (omega arith) (sym c.in_ok-len.ensures.len ∙ c.if-len-eq0.true) in
    c.in_ok-len.ensures.none c.if-len-eq0.true ∙ kept-stop c.loop-at.comments (comments_from 0 at (drop at text)) _ c.loop-at.invariant.kept none

pub returns-then-len-eq0-clause-end : goal.returns-then-len-eq0-clause-end
returns-then-len-eq0-clause-end c =
    let text = c.args.text.now in
    let stop = row_end-stop blank_len 0 c.loop-at.at text refl (omega arith) (sym c.in_ok-len.ensures.len ∙ c.if-len-eq0.true) in
    sym stop ∙ (c.loop-at.invariant.end ∙ row_end-from blank_len c.args.from (drop c.args.from text))

pub loop-at-preserved : goal.loop-at-preserved
loop-at-preserved c =
    let text = c.args.text.now in
    let at = c.loop-at.at in
    let next = at + c.min-at.result in
    record {
      kept = kept-more c.loop-at.comments (comment_at at (drop at text)) c.pass_blank.new.comments (comments_from 0 next (drop next text)) _ _ c.loop-at.invariant.kept
          (comments_from-next at c.in_ok-len.len next text (omega arith) c.in_ok-len.ensures.len (omega arith) (omega arith)) c.in_ok-len.ensures.kept;
      end = sym (row_end-next blank_len at c.in_ok-len.len next text (omega arith) c.in_ok-len.ensures.len (omega arith) (omega arith)) ∙ c.loop-at.invariant.end;
      within = omega arith;
      fit = c.in_ok-len.ensures.still_fit;
    }

pub returns-clause-kept : goal.returns-clause-kept
returns-clause-kept c =
    let text = c.args.text.now in
    let none = comments_from-done 0 c.loop-at.at text (omega arith) in
    kept-stop c.loop-at.comments (comments_from 0 c.loop-at.at (drop c.loop-at.at text)) _ c.loop-at.invariant.kept none

pub returns-clause-end : goal.returns-clause-end
returns-clause-end c =
    let text = c.args.text.now in
    sym (row_end-done blank_len 0 c.loop-at.at text (omega arith)) ∙ (c.loop-at.invariant.end ∙ row_end-from blank_len c.args.from (drop c.args.from text))
