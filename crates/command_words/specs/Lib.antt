pub mod Shape
pub mod Values
pub mod Invocations
pub mod Requests
