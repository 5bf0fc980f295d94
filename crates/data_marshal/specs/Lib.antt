pub mod Layout
pub mod Checks
