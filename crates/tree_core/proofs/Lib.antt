pub mod Children
pub mod Heights
pub mod Sames
pub mod Taken
