-- What `==` says of two kinds or two groups, both ways.
use Rattle.std.proofs.Common.{◌≡◌, true}
use denote.Enum.Bare.{same_true, true_same}
use Rattle.type_defs.specs.contracts.kind.Kind.{the_type}
use Rattle.type_defs.specs.contracts.groups.Group.{the_type as group_type}
use Rattle.type_defs.specs.declared.kind.Kind.{Kind}
use Rattle.type_defs.specs.declared.groups.Group.{Group}
use Rattle.type_defs.specs.Kinds.{same_kind}
use Rattle.type_defs.specs.Groups.{same_group}

pub same_kinds : (a b : Kind) → same_kind a b ≡ true → a ≡ b
same_kinds a b = same_true the_type tt a b

pub kinds_same : (a b : Kind) → a ≡ b → same_kind a b ≡ true
kinds_same a b = true_same the_type a b

pub same_groups : (a b : Group) → same_group a b ≡ true → a ≡ b
same_groups a b = same_true group_type tt a b

pub groups_same : (a b : Group) → a ≡ b → same_group a b ≡ true
groups_same a b = true_same group_type a b
