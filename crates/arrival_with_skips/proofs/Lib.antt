pub mod Walk
pub mod Highest
pub mod Calls
pub mod Example
pub mod Needed
pub mod Theorem
