pub mod KeptStores
pub mod Turns
pub mod Rounds
pub mod Scripts
pub mod PlayedRounds
