-- Each group has a row in the table of groups.
use Rattle.std.proofs.Common.{◌≡◌, refl, sym, ap, ◌∙◌, ℕ, ◌+◌, ◌<◌, true, List, Some, slice_get, get_or, length, map, below_more}
use borrow.Enum.Match.{tag_small}
use Rattle.type_defs.proofs.InOrder.{row_at, entry}
use Rattle.type_defs.specs.Rows.{in_order}
use Rattle.type_defs.specs.contracts.groups.Group.{the_type}
use Rattle.type_defs.specs.declared.groups.Group.{Group}
use Rattle.type_defs.specs.declared.groups.NodeType.TheVariants as t
use Rattle.type_defs.specs.Groups.{all_groups, group_place, group_name, LacksGroup, LacksType}
use Rattle.type_defs.specs.Kinds.{LacksKind}

ordered : in_order the_type 0 all_groups ≡ true
unfolding all_groups in_order
ordered = refl

count : 6 ≡ length all_groups
unfolding all_groups
count = refl

-- none of the first n groups has this name
abbrev pub LacksFirst : ℕ → List ℕ → Type 0
LacksFirst n name = (i : ℕ) (group : Group) → i < n → slice_get all_groups i ≡ Some group → group_name group ≡ name → ⊥

pub lacks_group : (name : List ℕ) → LacksFirst 6 name → LacksGroup name
lacks_group name h group e = h (group_place group) group (tag_small the_type group) (row_at the_type tt all_groups ordered count group) e

pub lacks_type : (name : List ℕ) → LacksKind name → LacksGroup name → LacksType name
lacks_type name kinds groups (t.Kind kind) e = kinds kind e
lacks_type name kinds groups (t.Group group) e = groups group e

-- nor the group of one more row
pub lacks_more : {R : Type 0} (f : R → Group) (rows : List R) (n : ℕ) (other : R) (name : List ℕ) → map f rows ≡ all_groups → n < length rows → (group_name (f (get_or rows n other)) ≡ name → ⊥)
    → LacksFirst n name → LacksFirst (n + 1) name
lacks_more f rows n other name e lt lacks before i group below =
    below_more (λ i. (group : Group) → slice_get all_groups i ≡ Some group → group_name group ≡ name → ⊥) n (λ k less one. before k one less)
    (λ one at named.
    let both : Some (f (get_or rows n other)) ≡ Some one = sym (entry f rows all_groups n other e lt) ∙ at in
    let same : f (get_or rows n other) ≡ one = cc in
    lacks (ap group_name same ∙ named))
    i below group
