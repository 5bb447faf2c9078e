pub mod Left
pub mod Stretches
pub mod Tokens
pub mod Spans
pub mod Same
pub mod Renames
pub mod Unchanged
