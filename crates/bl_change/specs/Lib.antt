pub mod EventText
pub mod EventTexts
pub mod Found
