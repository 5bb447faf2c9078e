pub mod Grouping
pub mod Spaces
