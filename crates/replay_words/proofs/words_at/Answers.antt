-- One number behind the other.
use Rattle.replay_words.proofs.Put.{then}
use Rattle.replay_words.proofs.words_at.Goals as goal

pub returns-clause-behind : goal.returns-clause-behind
returns-clause-behind c = then c.word_at-second.ensures.behind c.word_at.ensures.behind
