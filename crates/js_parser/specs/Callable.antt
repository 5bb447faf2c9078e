-- Function values that may be called to read a tree.
use Rattle.std.specs.Prelude.{ℕ}
use Rattle.std.specs.declared.alloc.Global.{Global}
use denote.Ref.{MutBor}
use Rattle.js_parser.specs.declared.reader.Reader.{Reader}
use Rattle.js_parser.specs.declared.expected.Expected.{Expected}

-- it may be called to read a tree at the depth
pub record Callable (depth : ℕ) (pre : Global → MutBor Reader → ℕ → Expected → Type 0) : Type 0 where
  pub callable : (alloc : Global) (old : MutBor Reader) (expected : Expected) → pre alloc old depth expected
