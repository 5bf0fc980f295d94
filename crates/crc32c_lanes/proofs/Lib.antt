pub mod Walk
pub mod Parts
pub mod Zeros
pub mod Side
