pub mod Filled
pub mod Joining
pub mod Sizes
pub mod Walks
