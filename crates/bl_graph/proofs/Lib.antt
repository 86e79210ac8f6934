pub mod Replayed
mod ValueOrder
mod Maps
mod Conflicts
mod Lenses
mod Apart
mod Sets
pub mod Fitting
mod FittingRows
pub mod Admitted
pub mod Duplicates
pub mod Validity
pub mod ValidChanges
pub mod Taken
mod ProperRows
mod OneWay
mod Named
mod ByNumber
mod Places
mod Totals
mod Nested
mod Kept
mod Steps
mod Whole
mod Copies
mod Counted
