pub mod Frag
pub mod Words
pub mod Pool
