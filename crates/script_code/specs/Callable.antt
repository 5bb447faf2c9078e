-- Function values that may be called to prepare a node.
use Rattle.std.specs.Prelude.{ℕ}
use denote.Ref.{Bor, MutBor}
use Rattle.tree_core.specs.declared.tree.Tree.{Tree}
use Rattle.script_code.specs.declared.state.State.{State}
use Rattle.script_code.specs.declared.maker.Role.{Role}

-- it may be called to prepare a node with so many levels below it
pub record Callable (levels : ℕ) (pre : MutBor State → ℕ → Bor Tree → Role → Type 0) : Type 0 where
  pub callable : (state : MutBor State) (tree : Bor Tree) (role : Role) → pre state levels tree role
