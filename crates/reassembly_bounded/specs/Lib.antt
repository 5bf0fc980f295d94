pub use Rattle.set_reach.specs.Bounded
