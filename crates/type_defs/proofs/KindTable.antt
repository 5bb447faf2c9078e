-- Each kind has a row in the table of kinds.
use Rattle.std.proofs.Common.{◌≡◌, refl, sym, ap, ◌∙◌, ℕ, ◌+◌, ◌<◌, true, List, Some, slice_get, get_or, length, map, below_more}
use borrow.Enum.Match.{tag_small}
use Rattle.type_defs.proofs.InOrder.{row_at, entry}
use Rattle.type_defs.specs.Rows.{in_order}
use Rattle.type_defs.specs.contracts.kind.Kind.{the_type}
use Rattle.type_defs.specs.declared.kind.Kind.{Kind}
use Rattle.type_defs.specs.Kinds.{kinds, place_of, name_of, LacksKind}

ordered : in_order the_type 0 kinds ≡ true
unfolding kinds in_order
ordered = refl

count : 73 ≡ length kinds
unfolding kinds
count = refl

-- none of the first n kinds has this name
abbrev pub LacksFirst : ℕ → List ℕ → Type 0
LacksFirst n name = (i : ℕ) (kind : Kind) → i < n → slice_get kinds i ≡ Some kind → name_of kind ≡ name → ⊥

pub lacks_kind : (name : List ℕ) → LacksFirst 73 name → LacksKind name
lacks_kind name h kind e = h (place_of kind) kind (tag_small the_type kind) (row_at the_type tt kinds ordered count kind) e

-- nor the kind of one more row
pub lacks_more : {R : Type 0} (f : R → Kind) (rows : List R) (n : ℕ) (other : R) (name : List ℕ) → map f rows ≡ kinds → n < length rows → (name_of (f (get_or rows n other)) ≡ name → ⊥)
    → LacksFirst n name → LacksFirst (n + 1) name
lacks_more f rows n other name e lt lacks before i kind below =
    below_more (λ i. (kind : Kind) → slice_get kinds i ≡ Some kind → name_of kind ≡ name → ⊥) n (λ k less one. before k one less)
    (λ one at named.
    let both : Some (f (get_or rows n other)) ≡ Some one = sym (entry f rows kinds n other e lt) ∙ at in
    let same : f (get_or rows n other) ≡ one = cc in
    lacks (ap name_of same ∙ named))
    i below kind
