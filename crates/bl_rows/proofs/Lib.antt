pub mod CsvRecords
pub mod Readers
pub mod RowReaders
pub mod Texts
pub mod TrimmedTexts
pub mod CellValues
pub mod FirstCells
pub mod RowFaults
pub mod SystemCells
pub mod ValidProperties
pub mod RowValid
mod GatheredCells
mod LabelItems
pub mod ShortLabels
pub mod RecordRows
pub mod RowsLeft
mod OneRow
