pub mod Walk
pub mod Follow
pub mod Unique
