use Rattle.std.proofs.Common.{ap, codes, ◌∙◌}
use Rattle.command_words.specs.Shape.{with_flag, with_layout_words, with_option}
use Rattle.command_words.proofs.shape.with_layout_words.Goals as goal

pub returns : goal.returns
unfolding with_layout_words
returns c =
    let first = c.in_ok-command.ensures in
    let second = c.in_ok-command-2.ensures ∙ ap (with_flag (codes "use-tabs")) first in
    let third = c.in_ok-command-3.ensures ∙ ap (with_option (codes "quote")) second in
    let fourth = c.in_ok-command-4.ensures ∙ ap (with_flag (codes "trailing-comma")) third in
    let fifth = c.in_ok-command-5.ensures ∙ ap (with_flag (codes "no-curly-spacing")) fourth in
    c.in_ok-command-6.ensures ∙ ap (with_flag (codes "arrow-parens")) fifth
