pub mod RestFacts
pub mod TrimFacts
pub mod TableFacts
pub mod FieldFacts
pub mod RowFacts
pub mod LineFacts
