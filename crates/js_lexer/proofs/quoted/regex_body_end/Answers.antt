use Rattle.std.proofs.Common.{◌∙◌, ap, sym, arith}
use Rattle.js_lexer.proofs.Rows.{row_end-part, row_end-stop}
use Rattle.js_lexer.specs.Quoted.{regex_part_len}
use Rattle.js_lexer.proofs.quoted.regex_body_end.Goals as goal

pub returns-then-len-eq0-clause-value : goal.returns-then-len-eq0-clause-value
returns-then-len-eq0-clause-value g c =
    let len = c.regex_part_len-len.ensures ∙ ap (regex_part_len) c.after.ensures in
    let stop = row_end-stop (regex_part_len) c.loop-at.skip c.loop-at.at (g.T.Text.bytes c.args.rest) (omega arith) (omega arith) (sym len ∙ c.if-len-eq0.true) in
    sym stop ∙ c.loop-at.invariant

pub loop-at-preserved : goal.loop-at-preserved
loop-at-preserved g c =
    let len = c.regex_part_len-len.ensures ∙ ap (regex_part_len) c.after.ensures in
    let on = row_end-part (regex_part_len) c.loop-at.skip c.loop-at.at c.regex_part_len-len.result (g.T.Text.bytes c.args.rest) (omega arith) (omega arith) len (omega arith) in
    sym on ∙ c.loop-at.invariant
