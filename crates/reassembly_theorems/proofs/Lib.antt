pub mod Views
pub mod Within
pub mod Stays
pub mod Readable
pub mod Opposite
