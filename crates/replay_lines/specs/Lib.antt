pub use Rattle.replay_words.specs.Lines
pub use Rattle.replay_words.specs.Behind
