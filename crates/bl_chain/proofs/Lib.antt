pub mod FedLoads
mod Batches
mod Positions
mod KeptLogs
mod QuietRows
pub mod KeptJobs
pub mod TakenRows
pub mod CarriedFiles
pub mod EndedFiles
pub mod Holdings
pub mod FedFiles
pub mod OtherEntries
pub mod OwnEntries
pub mod StartedLoads
pub mod Chained
pub mod OneEntryMore
pub mod WholeEnds
pub mod Grown
pub mod ReadHeaders
pub mod OneFolder
pub mod ListedTables
pub mod TurnEntries
mod OneOrder
pub mod OneTurn
pub mod StartedJobs
pub mod ClosedLoads
pub mod OverFiles
pub mod UncutEntries
