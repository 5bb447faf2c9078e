pub mod Convertible
pub mod Frame
pub mod Kinds
pub mod Positions
