pub mod Routes
pub mod Problems
pub mod Parameters
pub mod Asks
pub mod Replies
pub mod Answers
pub mod Steps
