pub mod Causes
pub mod Lists
pub mod Fronts
pub mod Facts
