pub mod Climbs
pub mod Names
pub mod WorkStack
pub mod Bound
