use Rattle.std.proofs.Common.{take, ap, ◌∙◌, arith}
use Rattle.std.specs.List.{prefix_len}
use Rattle.std.proofs.lemmas.List.{length-take}
use Rattle.std.proofs.lemmas.List.Sums.{prefix_len-le-length}
use Rattle.first_grammar.specs.Words.{is_part}
use Rattle.codemod_cmd.proofs.ScriptTexts.{take-length-take}
use Rattle.codemod_cmd.proofs.script.split_name.Goals as goal

pub returns-clause-name : goal.returns-clause-name
returns-clause-name c =
    let s = c.args.bytes.now in
    c.split_at.ensures.front ∙ ap (λ n. take n s) c.name_len.ensures ∙ take-length-take (prefix_len is_part s) s (prefix_len-le-length is_part s)

pub split_at-requires : goal.split_at-requires
split_at-requires c = let s = c.args.bytes.now in omega (arith, length-take (prefix_len is_part s) s)
