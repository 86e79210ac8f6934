mod RisingNames
pub mod OneWorld
pub mod Replays
pub mod SureWorlds
pub mod OpenFiles
pub mod NextWorks
mod FewFiles
mod BegunWorlds
mod ToldRows
mod MadeRows
mod LoadNumbers
mod MadeEntries
mod LongEntries
pub mod EndedJobs
mod FittingFiles
mod ListedIds
mod RisingLogs
mod AppliedChanges
pub mod JobCauses
