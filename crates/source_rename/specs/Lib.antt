pub mod Edits
pub mod Exports
pub mod Methods
pub mod Seats
pub mod Whole
