use Rattle.std.proofs.Common.{◌≢◌, ◌∙◌, slice_index, arith, ap}
use Rattle.command_words.proofs.Numbers.{number_read, number_refused}
use Rattle.command_words.proofs.values.number_to.Goals as goal

pub returns-in-Ok : goal.returns-in-Ok
returns-in-Ok c =
    let bare : slice_index c.args.text.now 0 ≢ 43 = λ e. c.if-bytes-eq43.false (ap (λ t. slice_index t 0) c.as_bytes-bytes.ensures.value ∙ e) in
    c.one_to.ensures ∙ number_read c.args.most c.in-Ok.number c.args.text.now bare c.in-Ok.ensures.value.0

pub returns-in-Err : goal.returns-in-Err
returns-in-Err c =
    let bare : slice_index c.args.text.now 0 ≢ 43 = λ e. c.if-bytes-eq43.false (ap (λ t. slice_index t 0) c.as_bytes-bytes.ensures.value ∙ e) in
    number_refused c.args.most c.args.text.now (omega (arith, c.ranges.most.fits)) bare c.in-Err.ensures.value.0
