pub mod Parts
pub mod Laws
pub mod Chunk
pub mod Laid
