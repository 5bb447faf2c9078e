use Rattle.std.proofs.Common.{ap, ◌∙◌}
use Rattle.clap.specs.Words.{app_of, with_rule}
use Rattle.command_words.specs.Shape.{with_script}
use Rattle.command_words.proofs.shape.with_script.Goals as goal

pub returns : goal.returns
unfolding with_script
returns c =
    c.in_ok-command.ensures.shape c.script_option-script.ensures.local ∙ ap (with_rule (app_of c.args.command)) c.script_option-script.ensures.rule
