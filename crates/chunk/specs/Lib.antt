pub mod Layout
pub mod Header
pub mod Part
