-- Tables with a row for each variant of an enum.
use Rattle.std.specs.Prelude.{ℕ, suc, Bool, true, List, [], ◌∷◌, ◌==◌, ◌&&◌}
use denote.Enum.Declared.{Declared, tag_of}

-- these are variants in the order of the enum, from the place n on
unfoldable pub in_order : (D : Declared) → ℕ → List D.D → Bool
in_order D n [] = true
in_order D n (x ∷ more) = (tag_of D x == n) && in_order D (suc n) more
