pub mod Result
pub mod Facts
