pub mod Limits
pub mod Shape
pub mod Room
pub mod State
pub mod Among
