pub mod Tokens
pub mod Shapes
pub mod Spells
