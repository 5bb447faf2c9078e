-- A function value that converts trees into patterns.
use Rattle.std.specs.Prelude.{ℕ, Bool, Result, IfOk, ◌≡◌}
use Rattle.std.specs.declared.alloc.Global.{Global}
use denote.Ref.{Bor}
use Rattle.tree_core.specs.declared.tree.Tree.{Tree}
use Rattle.tree_core.specs.View.{syntax}
use Rattle.pattern_cover.specs.declared.facts.CoverFacts.{CoverFacts}
use Rattle.pattern_cover.specs.declared.conversion.PatternPosition.{PatternPosition}
use Rattle.pattern_cover.specs.declared.conversion.PatternError.{PatternError}
use Rattle.pattern_cover.specs.Frame.{frame}

-- it may be called at the depth, and leaves what the pattern has in common with the tree
pub record Convertible (depth : ℕ) (pre : Global → Tree → Bool → Bor CoverFacts → ℕ → PatternPosition → Type 0)
    (post : Global → Tree → Bool → Bor CoverFacts → ℕ → PatternPosition → Result Tree PatternError → Type 0) : Type 0 where
  pub callable : (alloc : Global) (tree : Tree) (binding : Bool) (facts : Bor CoverFacts) (position : PatternPosition) → pre alloc tree binding facts depth position
  pub keeps : (alloc : Global) (tree : Tree) (binding : Bool) (facts : Bor CoverFacts) (position : PatternPosition) (r : Result Tree PatternError) → post alloc tree binding facts depth position r
      → IfOk r (λ pattern. frame (syntax pattern) ≡ frame (syntax tree))
