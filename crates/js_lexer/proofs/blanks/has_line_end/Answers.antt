use Rattle.std.proofs.Common.{◌∙◌, ap, sym, arith}
use Rattle.js_lexer.proofs.Rows.{has_line_end-here, has_line_end-next}
use Rattle.js_lexer.specs.Parts.{breaks_line}
use Rattle.js_lexer.proofs.blanks.has_line_end.Goals as goal

pub returns-then-breaks_line : goal.returns-then-breaks_line
returns-then-breaks_line g c =
    let breaks = ap breaks_line (sym c.after.ensures) ∙ (sym c.breaks_line.ensures ∙ c.if-breaks_line.true) in
    sym (has_line_end-here (g.T.Text.bytes c.args.blanks) c.loop-at.at (omega arith) breaks) ∙ c.loop-at.invariant

pub loop-at-preserved : goal.loop-at-preserved
loop-at-preserved g c =
    let none = ap breaks_line (sym c.after.ensures) ∙ (sym c.breaks_line.ensures ∙ c.if-breaks_line.false) in
    sym (has_line_end-next (g.T.Text.bytes c.args.blanks) c.loop-at.at (omega arith) none) ∙ c.loop-at.invariant
