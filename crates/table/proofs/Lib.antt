pub mod Columns
pub mod Scans
pub mod Words
