pub use Rattle.forward_tsn_entries.specs.Layout
pub mod ForwardTsn
