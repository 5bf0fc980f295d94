pub mod Sound
pub mod Pieces
