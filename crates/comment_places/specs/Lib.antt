pub mod Children
pub mod Seats
