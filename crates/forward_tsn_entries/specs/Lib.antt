pub mod Layout
pub mod Entries
