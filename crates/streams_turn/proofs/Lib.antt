pub mod Asked
pub mod Takes
pub mod Turns
