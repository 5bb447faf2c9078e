-- Characters of templates as leaves.
use Rattle.std.proofs.Common.{◌≡◌, ℕ, List, [], ◌∷◌, true, ap, sym, ◌∙◌, subst}
use Rattle.std.specs.Prelude.{slice_range}
use Rattle.tree_core.specs.declared.scalars.Scalar.{Scalar}
use Rattle.tree_core.specs.declared.scalars.Scalar.TheVariants as scalar
use Rattle.js_tokens.specs.Texts.{code_units}
use Rattle.type_defs.specs.declared.kind.Kind.TheVariants as of_kind
use Rattle.leaf_spellings.specs.Leaves.{Leaf, characters}

abbrev one : List ℕ → List Scalar
one units = scalar.Text units ∷ []

pub some_characters : (s : List ℕ) (i j : ℕ) (found : List Scalar) (units : List ℕ) → found ≡ one units → units ≡ code_units true (slice_range s i j) → Leaf s i j of_kind.TemplateElement found
some_characters s i j found units has is = subst (λ (all : List Scalar). Leaf s i j of_kind.TemplateElement all) (sym (has ∙ ap one is)) (characters i j)
