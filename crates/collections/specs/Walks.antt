-- Walks over the places below a node.
use Rattle.std.specs.Prelude.{◌<◌, length, IfSome}
use Rattle.node_arena.specs.Forest.{Forest}
use Rattle.collections.specs.declared.walks.Below.{Below}

-- the place that comes next is one of the forest
abbrev pub WalksIn : Forest → Below → Type 0
WalksIn F walk = IfSome walk.next (λ p. p < length F.places)
