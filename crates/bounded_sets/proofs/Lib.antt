pub mod Back
pub mod Sets
pub mod Lowest
