pub mod Reach
pub mod Kept
pub mod Bounded
pub mod Applicable
