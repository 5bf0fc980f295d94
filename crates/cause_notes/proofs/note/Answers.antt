-- `cause_notes::note` meets its contract: past the end of a list nothing is put.
use mathlib.Core.Path.{sym, ap}
use Prim.Native.Nat.{ℕ}
use lib.ListN.{set}
use lib.Seq.{set_out}
use Rattle.cause_parts.specs.Lists.{noted}
use Rattle.cause_notes.proofs.note.Goals as goal

pub returns-then-n-list : goal.returns-then-n-list
unfolding noted
returns-then-n-list c = let a = c.args in ap (λ (x : ℕ). set a.list.now a.n x) c.field.ensures

pub returns-else-n-list : goal.returns-else-n-list
unfolding noted
returns-else-n-list c = let a = c.args in sym (set_out a.list.now a.n _ c.if-n-list.false)
