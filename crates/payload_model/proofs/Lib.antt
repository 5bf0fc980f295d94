pub mod Laws
pub mod Held
pub mod Runs
pub mod Opposite
