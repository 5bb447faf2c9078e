pub mod Values
pub mod Reads
pub mod Matches
pub mod Below
pub mod Found
pub mod Above
pub mod Changes
pub mod Walks
