pub mod TypeTexts
pub mod Fields
pub mod Faults
pub mod FirstFaults
pub mod Headers
