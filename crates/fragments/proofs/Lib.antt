pub mod Pool
pub mod Words
pub mod Seen
