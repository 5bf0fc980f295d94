pub mod Serial
pub mod Facts
pub mod Compared
