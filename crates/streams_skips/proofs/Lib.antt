pub mod Shrunk
pub mod Ways
