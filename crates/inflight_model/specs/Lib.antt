pub mod Queue
pub mod Answers
pub mod Run
pub mod Facts
