pub mod Contexts
pub mod Fixed
pub mod Forms
pub mod Levels
pub mod Operators
pub mod Own
pub mod Table
