-- The space, and the digits behind it.
use Rattle.replay_words.proofs.Put.{then}
use Rattle.replay_words.proofs.word_at.Goals as goal

pub returns-clause-behind : goal.returns-clause-behind
returns-clause-behind c = then c.put_at-digits.ensures c.decimal_at.ensures.behind
