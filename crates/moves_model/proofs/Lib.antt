pub mod Flip
pub mod Shifted
pub mod Turned
