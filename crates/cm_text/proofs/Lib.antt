pub mod LineLemmas
pub mod Texts
