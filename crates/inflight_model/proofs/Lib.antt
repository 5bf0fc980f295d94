pub mod Marks
pub mod Passes
pub mod Laws
pub mod Calls
pub mod Runs
pub mod Once
