pub mod Padding
pub mod Passing
pub mod Putting
