-- A function value that reads trees to a depth.
use Rattle.std.specs.Prelude.{ℕ, Result}
use Rattle.std.specs.declared.alloc.Global.{Global}
use denote.Ref.{MutBor}
use Rattle.first_grammar.specs.declared.table.Category.{Category}
use Rattle.first_grammar.specs.declared.measured.Grown.{Grown}
use Rattle.first_grammar.specs.declared.error.ReadError.{ReadError}
use Rattle.first_grammar.specs.Input.{Input, Gives}
use Rattle.first_grammar.specs.Reading.{node}
use Rattle.first_grammar.specs.Growing.{grown_view}

-- it may be called at the depth, and gives what the reader of that depth gives
pub record Nests (depth : ℕ) (pre : Global → MutBor Input → ℕ → Category → ℕ → Type 0)
    (post : Global → MutBor Input → ℕ → Category → ℕ → Result Grown ReadError → MutBor Input → Type 0) : Type 0 where
  pub callable : (alloc : Global) (old : MutBor Input) (c : Category) (least : ℕ) → pre alloc old depth c least
  pub reads : (alloc : Global) (old new : MutBor Input) (c : Category) (least : ℕ) (r : Result Grown ReadError) → post alloc old depth c least r new
      → Gives grown_view (node depth c least old.now) r new.now
