pub mod MadeTurns
pub mod Ahead
pub mod AnsweredNext
pub mod PlayedRounds
pub mod KeptStores
pub mod DrainedRounds
pub mod RefusedTurns
pub mod WholeScripts
