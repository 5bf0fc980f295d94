pub mod Limits
pub mod Model
pub mod State
pub mod Rows
pub mod Answers
