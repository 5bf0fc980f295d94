pub mod Examples
pub mod Replayed
