pub mod DataBytes
