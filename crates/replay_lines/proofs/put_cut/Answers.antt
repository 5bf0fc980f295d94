-- `replay_lines::put_cut` meets its contract: the word goes behind the number.
use Rattle.replay_words.specs.Lines.{line}
use Rattle.replay_words.proofs.Put.{then, all-put}
use Rattle.replay_lines.proofs.put_cut.Goals as goal

pub returns : goal.returns
unfolding line
returns c = all-put (then c.decimal_at-end.ensures.behind c.put_at.ensures)
