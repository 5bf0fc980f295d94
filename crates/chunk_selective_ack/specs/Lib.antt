pub use Rattle.sack_entries.specs.Layout
pub mod Sack
