pub mod BigEndian
pub mod Facts
pub mod Refusal
