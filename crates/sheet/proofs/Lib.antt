pub mod Fronts
pub mod Steps
pub mod Reassembled
pub mod Sheet
