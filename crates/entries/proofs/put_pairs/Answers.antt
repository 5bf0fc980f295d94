-- `entries::put_pairs` meets its contract: after i turns the first i entries stand at the front.
use mathlib.Core.Path.{refl}
use mathlib.Core.List.{◌++◌}
use Prim.Native.Nat.{ℕ}
use native.Mathlib.Omega.{arith}
use lib.ListN.{length, get_or, take, length-drop, length-take}
use lib.Seq.{take_all}
use Rattle.wire_model.specs.BigEndian.{big_endian}
use Rattle.wire.proofs.Writing.{fill_none, fill_turn}
use Rattle.entries.specs.Pairs.{pairs}
use Rattle.entries.proofs.Entries.{pairs_entries, entries_more, entries_taken}
use Rattle.entries.proofs.put_pairs.Goals as goal

pub loop-i-init : goal.loop-i-init
unfolding pairs
loop-i-init c =
    let a = c.args in
    (c.requires.firsts_len, fill_none (λ (k : ℕ). pairs (take k a.firsts.now) (take k a.seconds.now)) (length a.firsts.now) a.out.now c.requires.firsts_in_bounds refl)

pub put_pair-requires : goal.put_pair-requires
put_pair-requires c = simp (length-take, length-drop) (omega arith)

pub loop-i-preserved : goal.loop-i-preserved
loop-i-preserved c =
    let a = c.args in
    let firsts = a.firsts.now in
    let seconds = a.seconds.now in
    let i = c.loop-i.i in
    let same = c.loop-i.invariant.0 in (
      same,
      fill_turn c.loop-i.invariant.1 (entries_taken pairs_entries firsts seconds same) (omega arith) (big_endian 2 (get_or firsts i 0) ++ big_endian 2 (get_or seconds i 0))
          (entries_more pairs_entries firsts seconds i (omega arith) (omega arith)) c.put_pair.ensures,
    )

pub returns : goal.returns
returns c =
    let a = c.args in
    let i = c.loop-i.i in
    let same = c.loop-i.invariant.0 in
    rw (take_all i a.firsts.now c.loop-i-test.false, take_all i a.seconds.now (omega arith)) at c.loop-i.invariant.1.is
