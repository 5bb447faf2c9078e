-- The rows of sources: of those that have no tree, and of new texts.
use Rattle.std.proofs.Common.{◌≡◌, ℕ, ◌<◌, ◌≤◌, Bool, true, false, List, length, inr, arith, refl, sym, subst}
use Rattle.std.proofs.lemmas.Bool.{ltb-false}
use Rattle.std.proofs.lemmas.Str.{IsUtf8-from_is_utf8}
use Rattle.std.specs.Prelude.{if◌then◌else◌, nat_lt}
use Rattle.std.specs.Prelude.{Ok as Good, Err as Bad}
use Rattle.std.specs.Str.{is_utf8}
use Rattle.std.specs.Str.Lossy.{utf8_valid_len}
use Rattle.tree_core.specs.Syntax.{Syntax as Tree}
use Rattle.tree_core.specs.declared.span.Span.{Span}
use Rattle.cm_text.specs.Text.{source_of}
use Rattle.cm_text.specs.declared.fault.TextFault.TheVariants.{TooLong, NotUtf8}
use Rattle.cm_text.specs.declared.source.TheConstants.{MAX_LENGTH}
use Rattle.js_lexer.specs.declared.fault.SyntaxKind.{SyntaxKind}
use Rattle.js_lexer.specs.declared.fault.SyntaxKind.TheVariants.{Unexpected, Nesting, Lex}
use Rattle.run_report.specs.declared.answer.RowAnswer.{RowAnswer}
use Rattle.run_report.specs.declared.answer.RowAnswer.TheVariants.{Ok, Unmodified, Skipped, Error}
use Rattle.codemod_cmd.specs.Script.{Change}
use Rattle.codemod_cmd.specs.FileAnswer.{IsSource, IsTreeOf, IsOther, HasNoTree, Makes, FileAnswer}
use Rattle.codemod_cmd.specs.Readings.{IsTold}

pub other_refused : (s : List ℕ) (at : ℕ) (kind : SyntaxKind) → IsOther s → at ≤ length s → HasNoTree s at kind
other_refused s at Unexpected other within = (other, within)
other_refused s at Nesting other within = ((λ t reads. absurd (other t reads)), inr (other, within))
other_refused s at (Lex kind) other within = (other, within)

pub told_answer : (change : Change) (s out : List ℕ) (answer : RowAnswer) → IsTold s out answer → IsSource s → Makes change s out → FileAnswer change s answer out
told_answer change s out Ok told is makes = (is, makes, told)
told_answer change s out Unmodified told is makes = (is, makes, told)
told_answer change s out Skipped told is makes = absurd told
told_answer change s out (Error error) told is makes = absurd told

pub not_above : (most n : ℕ) → (most < n → ⊥) → n ≤ most
not_above most n h = omega (arith, h)

-- a source has the bytes of which it is made
pub source_of_bytes : (bytes s : List ℕ) → source_of bytes ≡ Good s → s ≡ bytes
source_of_bytes bytes s = go (nat_lt MAX_LENGTH (length bytes)) (is_utf8 bytes)
  where
    go : (long text : Bool) → (if long then Bad (TooLong (length bytes)) else (if text then Good bytes else Bad (NotUtf8 (utf8_valid_len bytes)))) ≡ Good s → s ≡ bytes
    go true text e = (cc)
    go false true e = (cc)
    go false false e = (cc)

-- and it is short and UTF-8
pub source_is : (bytes s : List ℕ) → source_of bytes ≡ Good s → IsSource s
source_is bytes s e = subst IsSource (sym (source_of_bytes bytes s e)) (made (nat_lt MAX_LENGTH (length bytes)) (is_utf8 bytes) refl refl e)
  where
    made : (long text : Bool) → nat_lt MAX_LENGTH (length bytes) ≡ long → is_utf8 bytes ≡ text
        → (if long then Bad (TooLong (length bytes)) else (if text then Good bytes else Bad (NotUtf8 (utf8_valid_len bytes)))) ≡ Good s → IsSource bytes
    made true text l u e = absurd (cc)
    made false true l u e = record { short = ltb-false MAX_LENGTH (length bytes) l; utf8 = IsUtf8-from_is_utf8 bytes u }
    made false false l u e = absurd (cc)

-- what is a tree of the bytes of a source is one of the source, and the other way round
pub tree_of_source : (bytes s : List ℕ) (spans : List Span) (t : Tree) → bytes ≡ s → IsTreeOf bytes spans t → IsTreeOf s spans t
tree_of_source bytes s spans t same is = subst (λ z. IsTreeOf z spans t) same is

pub tree_of_bytes : (bytes s : List ℕ) (spans : List Span) (t : Tree) → bytes ≡ s → IsTreeOf s spans t → IsTreeOf bytes spans t
tree_of_bytes bytes s spans t same is = subst (λ z. IsTreeOf z spans t) (sym same) is
