mod Fronts
mod TakenRows
pub mod Sound
pub mod Fitting
pub mod ValidChanges
pub mod TwoBatches
