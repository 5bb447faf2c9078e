pub mod FieldTable
pub mod GroupTable
pub mod InOrder
pub mod KindTable
pub mod SameKind
