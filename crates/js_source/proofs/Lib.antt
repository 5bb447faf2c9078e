pub mod LeafNodes
pub mod LineEnds
pub mod Nests
pub mod Numberings
pub mod Shapes
pub mod Sums
