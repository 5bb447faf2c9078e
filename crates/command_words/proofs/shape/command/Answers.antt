use Rattle.std.proofs.Common.{ap, ◌∙◌}
use Rattle.command_words.specs.Shape.{command, with_files, with_layout_words, with_run_words}
use Rattle.command_words.proofs.shape.command.Goals as goal

pub returns : goal.returns
unfolding command
returns c =
    let run = c.in_ok-command.ensures ∙ ap with_run_words c.bare.ensures in
    let layout = c.in_ok-command-2.ensures ∙ ap with_layout_words run in
    c.in_ok-command-3.ensures ∙ ap with_files layout
