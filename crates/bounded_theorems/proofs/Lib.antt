pub mod Best
pub mod Held
pub mod Bounded
