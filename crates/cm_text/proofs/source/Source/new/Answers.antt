use Rattle.std.proofs.Common.{◌∙◌, sym, subst, ap, arith}
use Rattle.std.specs.Str.{IsUtf8}
use Rattle.std.specs.Str.Lossy.{utf8_valid_len}
use Rattle.cm_text.proofs.Texts.{source_of-utf8, source_of-not_utf8}
use Rattle.cm_text.proofs.source.Source.new.Goals as goal

pub returns-in-Err : goal.returns-in-Err
returns-in-Err c =
    sym (source_of-not_utf8 c.args.bytes.items c.valid_up_to.result (omega arith)
    (subst (λ bytes. IsUtf8 bytes → ⊥) c.deref.ensures.value c.in-Err.ensures.cases.0)
    (c.valid_up_to.ensures ∙ (c.in-Err.ensures.valid_len ∙ ap utf8_valid_len c.deref.ensures.value)))

pub returns : goal.returns
returns c =
    sym (source_of-utf8 c.args.bytes.items (omega arith) (subst IsUtf8 c.deref.ensures.value c.in-Ok.ensures.cases.1))
