pub mod Fronts
pub mod Noted
