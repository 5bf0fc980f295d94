pub mod Planned
pub mod Bridge
pub mod Calls
pub mod Example
pub mod Needed
pub mod Theorem
pub mod Listed
