pub use Rattle.gap_model.specs.Adjacent
pub use Rattle.gap_model.specs.Gap
pub use Rattle.gap_model.specs.Report
