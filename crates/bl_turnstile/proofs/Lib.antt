pub mod Counts
mod Parts
mod Stepping
mod Entering
mod Leaving
mod Sharing
mod Ends
pub mod Choices
