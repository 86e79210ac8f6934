pub mod Events
pub mod Slices
pub mod Readers
pub mod Pages
pub mod Filling
pub mod Refused
