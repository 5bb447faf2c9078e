pub mod First
pub mod Gaps
pub mod Kids
pub mod Told
pub mod Turns
