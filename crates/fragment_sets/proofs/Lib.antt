pub mod Sets
pub mod Seen
pub mod Complete
pub mod Together
