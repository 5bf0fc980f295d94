-- `fields::put_pairs_and_words` meets its contract: the numbers go into what is left behind the pairs.
use Prim.Native.Nat.{◌*◌}
use lib.ListN.{length}
use Rattle.wire.proofs.Writing.{behind}
use Rattle.entries.specs.Pairs.{pairs, words}
use Rattle.entries.proofs.Entries.{pairs_entries, entries_length}
use Rattle.fields.proofs.put_pairs_and_words.Goals as goal

pub returns : goal.returns
returns c =
    let a = c.args in
    let firsts = a.firsts.now in
    let seconds = a.seconds.now in
    behind a.out.now (pairs firsts seconds) (words a.numbers.now) (4 * length firsts) (entries_length pairs_entries firsts seconds c.requires.firsts_len) c.put_pairs.ensures c.put_words.ensures
