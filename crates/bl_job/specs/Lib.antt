pub mod Batches
pub mod Batched
pub mod Joined
