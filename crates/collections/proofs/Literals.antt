-- The scalars of a literal.
use Rattle.std.proofs.Common.{◌≡◌, ◌<◌, ℕ, true, ap, ◌∙◌, refl, rules, arith}
use denote.Enum.Bare.{same_true}
use Rattle.type_defs.specs.contracts.kind.Kind.{the_type}
use Rattle.type_defs.specs.declared.kind.Kind.{Kind}
use Rattle.type_defs.specs.declared.kind.Kind.TheVariants as k
use Rattle.type_defs.specs.Kinds.{same_kind}
use Rattle.type_defs.specs.Fields.{field_lists, fields_of, scalar_count}

three : scalar_count k.Literal ≡ 3
unfolding fields_of field_lists
three = refl

pub has_raw : (kind : Kind) → same_kind kind k.Literal ≡ true → 1 < scalar_count kind
has_raw kind e =
    let f : kind ≡ k.Literal = same_true the_type (search rules) _ _ e in
    let n : scalar_count kind ≡ 3 = ap scalar_count f ∙ three in
    omega (arith, n)
