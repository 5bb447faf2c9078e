pub mod Leaves
pub mod Begun
pub mod Plain
