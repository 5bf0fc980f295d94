pub mod Fronts
pub mod Mirror
