pub mod AnswerLemmas
pub mod BufferLemmas
pub mod FieldLemmas
pub mod InputLemmas
pub mod PartLemmas
pub mod ReadingLemmas
