use Rattle.std.proofs.Common.{sym, ◌∙◌}
use Rattle.codemod_cmd.proofs.Refusals.{source_is}
use Rattle.codemod_cmd.proofs.codemod.CodemodEngine.answer.Goals as goal

pub over_source-requires : goal.over_source-requires
over_source-requires c = source_is c.args.bytes.items c.in-Ok.source (sym c.new.ensures ∙ c.in-Ok.is)
