pub mod Below
pub mod Contents
pub mod Faults
pub mod Files
pub mod Listing
pub mod Reading
pub mod States
pub mod Writing
