pub mod Reading
pub mod Slots
pub mod Choice
pub mod Edges
