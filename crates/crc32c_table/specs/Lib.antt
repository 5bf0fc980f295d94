pub mod Crc
pub mod Facts
pub mod Table
pub mod Vectors
