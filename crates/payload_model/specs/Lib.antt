pub mod Limits
pub mod Queue
pub mod Answers
pub mod GapCall
pub mod Run
pub mod Log
