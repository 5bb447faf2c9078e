pub mod Names
pub mod Subset
pub mod Writes
