mod Dependencies
mod Elements
mod NoFloats
mod ReadNumbers
mod PageTexts
