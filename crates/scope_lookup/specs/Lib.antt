pub mod Roles
pub mod Places
pub mod Climbs
pub mod Scopings
pub mod Walk
pub mod Resolve
pub mod Bindings
