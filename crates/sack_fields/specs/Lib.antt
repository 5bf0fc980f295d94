pub mod Sack
