pub use Rattle.set_reach.specs.Applicable
pub mod Answers
