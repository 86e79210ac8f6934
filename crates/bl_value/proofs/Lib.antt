mod Arrays
mod CivilDays
pub mod DateTexts
mod Days
mod Integers
pub mod ItemTexts
mod Moments
pub mod OnceValues
pub mod Repeats
mod Utf8
