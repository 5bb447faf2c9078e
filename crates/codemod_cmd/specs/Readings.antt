-- What comes of a source on the way to its row.
use Rattle.std.specs.Prelude.{◌≡◌, ◌≢◌, ℕ, List}
use Rattle.tree_core.specs.View.{syntax}
use Rattle.js_lexer.specs.declared.fault.SyntaxKind.TheVariants.{Nesting}
use Rattle.run_report.specs.declared.answer.RowAnswer.{RowAnswer}
use Rattle.run_report.specs.declared.answer.RowAnswer.TheVariants.{Ok, Unmodified}
use Rattle.codemod_cmd.specs.FileAnswer.{IsTreeOf, IsOther, HasNoTree}
use Rattle.codemod_cmd.specs.declared.answering.Reading.{Reading}
use Rattle.codemod_cmd.specs.declared.answering.Reading.TheVariants.{First, Other, Deep}

-- what the reader of the first grammar makes of it
abbrev pub IsReading : List ℕ → Reading → Type 0
IsReading s (First p) = IsTreeOf s p.spans (syntax p.tree)
IsReading s Other = IsOther s
IsReading s (Deep at) = HasNoTree s at Nesting

-- the row of a new text
abbrev pub IsTold : List ℕ → List ℕ → RowAnswer → Type 0
IsTold s out Ok = out ≢ s
IsTold s out Unmodified = out ≡ s
IsTold s out _ = ⊥
