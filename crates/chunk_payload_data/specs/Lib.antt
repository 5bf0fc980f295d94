pub use Rattle.data_marshal.specs.Layout
pub mod Data
