use Rattle.std.proofs.Common.{map, string_bytes, subst, sym, ◌∙◌}
use Rattle.std.specs.Prelude.{IfSome}
use Rattle.std.proofs.lemmas.Result.{IfOk-weaker}
use Rattle.clap.specs.Words.{app_of, found_of, kind_of, rows_of}
use Rattle.command_words.specs.Invocations.{IsInRanges}
use Rattle.command_words.proofs.Ranges.{in_ranges}
use Rattle.command_words.proofs.Taken.{not_taken, taken}
use Rattle.command_words.proofs.reading.read_invocation.Goals as goal

pub returns-in-Ok : goal.returns-in-Ok
returns-in-Ok c =
    let words = map string_bytes c.args.words.now in
    let rows = rows_of (found_of c.in-Ok.matches) in
    let whole = taken (app_of c.in_ok-command.command) words rows c.in_ok-command.ensures (λ s. (c.in-Ok.ensures.matches s).0) c.in-Ok.ensures.kinds in
    let value = IfOk-weaker c.invocation_in.result _ _ (λ made e. e ∙ whole) c.invocation_in.ensures in
    record {
      value = value;
      ranges = IfOk-weaker c.invocation_in.result _ _ (λ made e. subst (λ o. IfSome o IsInRanges) (sym e) (in_ranges words)) value;
    }

pub returns-in-Err : goal.returns-in-Err
returns-in-Err c =
    let words = map string_bytes c.args.words.now in
    let none = not_taken (app_of c.in_ok-command.command) words (kind_of c.in-Err.error) c.in_ok-command.ensures c.in-Err.ensures.passes in
    let value = IfOk-weaker c.refused.result _ _ (λ made e. e.0 ∙ none e.1) c.refused.ensures in
    record {
      value = value;
      ranges = IfOk-weaker c.refused.result _ _ (λ made e. subst (λ o. IfSome o IsInRanges) (sym e) (in_ranges words)) value;
    }
