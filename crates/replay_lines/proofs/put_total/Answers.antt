-- `replay_lines::put_total` meets its contract: each pair of numbers goes behind what is there.
use Rattle.replay_words.proofs.Put.{then, all-put, total-pairs}
use Rattle.replay_lines.proofs.put_total.Goals as goal

pub returns : goal.returns
returns c =
    let counters = c.args.counters in
    rw (← (total-pairs counters)) (all-put (then c.put_at-first.ensures (then c.words_at-third.ensures.behind (then c.words_at-end.ensures.behind c.put_at.ensures))))
