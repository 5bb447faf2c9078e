-- Lists of few scalars.
use Rattle.std.proofs.Common.{◌≡◌, List, [], ◌∷◌, length, Some, arith}
use Rattle.std.specs.Prelude.{slice_get}
use Rattle.tree_core.specs.declared.scalars.Scalar.{Scalar}

pub one_alone : (found : List Scalar) (one : Scalar) → length found ≡ 1 → slice_get found 0 ≡ Some one → found ≡ one ∷ []
one_alone [] one long is = absurd (omega arith)
one_alone (first ∷ []) one long is = cc
one_alone (first ∷ second ∷ more) one long is = absurd (omega arith)

pub three_of : (found : List Scalar) (one two three : Scalar) → length found ≡ 3 → slice_get found 0 ≡ Some one → slice_get found 1 ≡ Some two → slice_get found 2 ≡ Some three → found ≡ one ∷ two ∷ three ∷ []
three_of [] one two three long first second third = absurd (omega arith)
three_of (a ∷ []) one two three long first second third = absurd (omega arith)
three_of (a ∷ b ∷ []) one two three long first second third = absurd (omega arith)
three_of (a ∷ b ∷ c ∷ []) one two three long first second third = cc
three_of (a ∷ b ∷ c ∷ d ∷ more) one two three long first second third = absurd (omega arith)
