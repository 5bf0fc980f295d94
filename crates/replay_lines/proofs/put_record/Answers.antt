-- `replay_lines::put_record` meets its contract: each part goes behind the one before it.
use Rattle.replay_words.specs.Lines.{line}
use Rattle.replay_words.proofs.Put.{then, all-put}
use Rattle.replay_lines.proofs.put_record.Goals as goal

pub returns : goal.returns
unfolding line
returns c = all-put (then c.decimal_at-space.ensures.behind (then c.put_at-what.ensures (then c.said_at-end.ensures.behind c.put_at.ensures)))
