pub mod EventLists
pub mod FilledPages
pub mod WantedEvents
pub mod ReadSlices
pub mod PageFacts
