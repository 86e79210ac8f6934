pub mod Finite
pub mod Moments
pub mod Told
mod Kept
pub mod Names
mod Stopped
mod TextTest
