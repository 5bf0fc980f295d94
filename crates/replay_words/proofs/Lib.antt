pub mod Digits
pub mod Put
