pub mod Rules
pub mod Kinds
pub mod Forms
pub mod Texts
pub mod Categories
pub mod Parts
