pub mod Bares
pub mod Lengths
