-- What fields of nodes read as.
use Rattle.std.specs.Prelude.{ℕ, ◌<◌, length, Option, Some, None}
use Rattle.node_arena.specs.Forest.{Forest}
use Rattle.collections.specs.declared.field_values.Read.{Read}
use Rattle.collections.specs.declared.field_values.Read.TheVariants as reads

abbrev pub PlaceIn : Forest → Option ℕ → Type 0
PlaceIn F None = Unit {0}
PlaceIn F (Some p) = p < length F.places

-- a node or a list that is read is one of the forest
abbrev pub ReadIn : Forest → Read → Type 0
ReadIn F (reads.Node j) = j < length F.nodes
ReadIn F (reads.List p) = p < length F.places
ReadIn F _ = Unit {0}
