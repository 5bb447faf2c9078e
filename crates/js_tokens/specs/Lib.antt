pub mod Characters
pub mod Pieces
pub mod Punctuators
pub mod Texts
pub mod Tokens
pub mod Words
