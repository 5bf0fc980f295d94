-- `fields::put_words` meets its contract: after i turns the first i numbers stand at the front.
use Prim.Native.Nat.{ℕ}
use lib.ListN.{length, take}
use Rattle.wire.proofs.Writing.{Filled}
use Rattle.entries.specs.Pairs.{words}
use Rattle.fields.proofs.put_words.Given as goal

abbrev pub invariant-loop-i : goal.invariant-loop-i
invariant-loop-i l = Filled (λ (k : ℕ). words (take k l.numbers)) (length l.numbers) l.initial.out l.out l.i
