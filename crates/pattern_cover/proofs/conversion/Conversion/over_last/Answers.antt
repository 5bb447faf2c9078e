use Rattle.std.proofs.Common.{ap, sym, ◌∙◌}
use Rattle.pattern_cover.specs.Frame.{framed}
use Rattle.pattern_cover.proofs.Frames.{same_rows, tree_framed}
use Rattle.pattern_cover.proofs.conversion.Conversion.over_last.Goals as goal

pub returns-clause-frame : goal.returns-clause-frame
returns-clause-frame g c =
    c.made.ensures.frame ∙ (ap (framed c.args.tree.from) (same_rows _ _ c.in_ok-slots.ensures.frames) ∙ sym (tree_framed c.args.tree))
