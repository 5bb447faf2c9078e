-- A new text that could not be written.
use Rattle.std.proofs.Common.{◌≡◌, ℕ, ◌≤◌, Bool, List, ap, subst, ◌∙◌, arith}
use Rattle.std.specs.Prelude.{Option, if◌then◌else◌}
use Rattle.cm_store.specs.Contents.{Contents, replaced}
use Rattle.cm_store.specs.Faults.{Rose}
use Rattle.run_report.specs.declared.answer.RowAnswer.{RowAnswer}
use Rattle.codemod_cmd.specs.Rows.{Row, unwritten, IsRow}
use Rattle.codemod_cmd.specs.FileRows.{IsUnwritten}
use Rattle.codemod_cmd.specs.Session.{outside, Passes}

pub faulted : (says : List ℕ → RowAnswer → List ℕ → Type 0) (dry : Bool) (name : List ℕ) (row : Row) (held mid now : Option Contents) (f0 f1 f2 : ℕ) (taken written : Option (List ℕ))
    → mid ≡ held → IsRow says dry held name row → (un : IsUnwritten dry mid now name row) → f0 ≤ f1 → Rose f1 f2 → Passes says dry name (unwritten un.0 un.1) (outside held f0 taken) (outside now f2 written)
faulted says dry name row held mid now f0 f1 f2 taken written kept is un later rose = record {
  is = (un.2, subst (IsRow says dry held name) un.3 is);
  held = un.4 ∙ ap (λ h. if un.1 then replaced h name un.0 else h) kept;
  failed = omega (arith, later, rose);
}
