pub mod Runs
pub mod Alone
pub mod Rule
pub mod Arrives
pub mod Skips
