pub mod Climbs
pub mod Forest
pub mod Fronts
pub mod Lists
pub mod Payload
pub mod Reads
pub mod Rows
pub mod Store
