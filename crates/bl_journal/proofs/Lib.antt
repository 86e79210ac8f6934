mod Emptiness
mod Bytes
mod Reaching
pub mod Standing
mod Appending
mod Calls
mod Gates
mod Reading
mod Beginning
