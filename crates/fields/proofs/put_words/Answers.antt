-- `fields::put_words` meets its contract: after i turns the first i numbers stand at the front.
use mathlib.Core.Path.{refl, ap, ◌∙◌}
use mathlib.Core.List.{List}
use Prim.Native.Nat.{ℕ}
use native.Mathlib.Omega.{arith}
use lib.ListN.{length, get_or, take, length-drop, length-take}
use lib.Seq.{take_all}
use Rattle.wire_model.specs.BigEndian.{big_endian, over}
use Rattle.wire.proofs.Writing.{fill_none, fill_turn}
use Rattle.entries.specs.Pairs.{words}
use Rattle.entries.proofs.Entries.{words_entries, entries_more, entries_taken}
use Rattle.fields.proofs.put_words.Goals as goal

pub loop-i-init : goal.loop-i-init
unfolding words
loop-i-init c = let a = c.args in fill_none (λ (k : ℕ). words (take k a.numbers.now)) (length a.numbers.now) a.out.now c.requires refl

pub put_u32-requires : goal.put_u32-requires
put_u32-requires c = simp (length-take, length-drop) (omega arith)

pub loop-i-preserved : goal.loop-i-preserved
loop-i-preserved c =
    let numbers = c.args.numbers.now in
    let i = c.loop-i.i in
    fill_turn c.loop-i.invariant (entries_taken words_entries numbers numbers refl) (omega arith) (big_endian 4 (get_or numbers i 0)) (entries_more words_entries numbers numbers i (omega arith) (omega arith)) c.put_u32.ensures

pub returns : goal.returns
returns c =
    let a = c.args in
    c.loop-i.invariant.is ∙ ap (λ (xs : List ℕ). over a.out.now (words xs)) (take_all c.loop-i.i a.numbers.now c.loop-i-test.false)
