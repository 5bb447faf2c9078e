pub mod Counting
pub mod Errors
pub mod Texts
