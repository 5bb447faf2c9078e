-- Tests of scalars.
use Rattle.std.specs.Prelude.{ℕ, Bool, true, false, not, List, Option, Some, None, if◌then◌else◌}
use Rattle.std.specs.Str.{bytes_eq}
use Rattle.tree_core.specs.declared.scalars.Scalar.{Scalar}
use Rattle.tree_core.specs.declared.scalars.Scalar.TheVariants as scalar

-- the scalar is this text
abbrev pub is_text : List ℕ → Scalar → Bool
is_text text (scalar.Text units) = bytes_eq units text
is_text text (scalar.Truth truth) = false
is_text text scalar.Null = false

abbrev pub is_same : Bool → Bool → Bool
is_same one other = if one then other else not other

-- the scalar is this truth
abbrev pub is_truth : Bool → Scalar → Bool
is_truth truth (scalar.Text units) = false
is_truth truth (scalar.Truth found) = is_same found truth
is_truth truth scalar.Null = false

-- the scalar is the absence of a value
abbrev pub is_null : Scalar → Bool
is_null (scalar.Text units) = false
is_null (scalar.Truth truth) = false
is_null scalar.Null = true

-- the same of a scalar that may not be there
abbrev pub is_text_at : List ℕ → Option Scalar → Bool
is_text_at text None = false
is_text_at text (Some found) = is_text text found

abbrev pub is_truth_at : Bool → Option Scalar → Bool
is_truth_at truth None = false
is_truth_at truth (Some found) = is_truth truth found

abbrev pub is_null_at : Option Scalar → Bool
is_null_at None = false
is_null_at (Some found) = is_null found
