pub mod Seen
pub mod Run
pub mod Reach
pub mod Scanned
