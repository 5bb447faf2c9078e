pub mod Semicolons
