pub mod Reach
pub mod Blind
pub mod Passing
pub mod Skip
pub mod Keeping
