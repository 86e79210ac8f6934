pub mod SlotFiles
pub mod TwoSlots
