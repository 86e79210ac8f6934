pub mod Replayed
mod Found
mod Committed
pub mod Counting
pub mod Settling
mod Looking
pub mod Composed
mod Added
mod Appended
mod Told
mod Judged
pub mod Drained
