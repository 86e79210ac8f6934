pub mod Worlds
pub mod States
pub mod Works
pub mod LoadIds
pub mod Makings
pub mod Following
pub mod Causes
