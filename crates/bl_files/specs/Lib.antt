pub mod Statuses
pub mod Codes
pub mod Carried
pub mod Collected
pub mod Plans
pub mod Shown
pub mod ErrorFeed
pub mod Sources
