use Rattle.std.proofs.Common.{ap, codes, ◌∙◌}
use Rattle.command_words.specs.Shape.{with_flag, with_letter, with_option, with_run_words}
use Rattle.command_words.proofs.shape.with_run_words.Goals as goal

pub returns : goal.returns
unfolding with_run_words
returns c =
    let first = c.in_ok-command.ensures in
    let second = c.in_ok-command-2.ensures ∙ ap (with_letter (codes "dry") 100) first in
    let third = c.in_ok-command-3.ensures ∙ ap (with_letter (codes "print") 112) second in
    let fourth = c.in_ok-command-4.ensures ∙ ap (with_option (codes "fuel")) third in
    let fifth = c.in_ok-command-5.ensures ∙ ap (with_option (codes "extensions")) fourth in
    c.in_ok-command-6.ensures ∙ ap (with_flag (codes "fail-on-error")) fifth
