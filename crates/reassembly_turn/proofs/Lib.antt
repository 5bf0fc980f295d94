pub mod Messages
pub mod Turn
