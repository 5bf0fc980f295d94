pub use Rattle.crc32c_table.specs.Crc
pub use Rattle.crc32c_table.specs.Facts
pub use Rattle.crc32c_lanes.specs.Parts
pub use Rattle.crc32c_table.specs.Table
pub use Rattle.crc32c_table.specs.Vectors
