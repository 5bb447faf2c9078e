pub mod Growing
pub mod Heights
