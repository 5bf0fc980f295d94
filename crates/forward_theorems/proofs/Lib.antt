pub mod Pairs
pub mod Skips
