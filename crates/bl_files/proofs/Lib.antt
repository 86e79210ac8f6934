pub mod Members
pub mod FeedOrder
pub mod CarriedFeeds
mod CarriedNumbers
mod RisingNames
mod Parts
mod KeptSources
